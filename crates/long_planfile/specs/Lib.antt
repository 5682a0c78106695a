pub mod Size
pub mod Reached
