pub mod Accepted
pub mod Laws
pub mod Walk
