pub mod Accounts
pub mod Laws
