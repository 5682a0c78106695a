pub mod Given
pub mod Counting
