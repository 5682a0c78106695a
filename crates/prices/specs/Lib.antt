pub mod Entries
pub mod Splits
pub mod Filling
