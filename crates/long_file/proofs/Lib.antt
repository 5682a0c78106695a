pub mod Full
pub mod LongFile
pub mod Longest
