pub mod LongFile
pub mod Full
pub mod Longest
