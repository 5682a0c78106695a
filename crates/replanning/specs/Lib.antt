pub mod Replans
pub mod Laws
