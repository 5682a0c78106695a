pub mod Valuing
pub mod Laws
