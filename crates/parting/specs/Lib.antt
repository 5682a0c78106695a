pub mod Parting
pub mod Laws
pub mod Accepted
pub mod Walk
