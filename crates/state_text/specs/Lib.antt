pub mod StateText
pub mod Laws
pub mod Kept
