pub mod Comparing
pub mod Laws
