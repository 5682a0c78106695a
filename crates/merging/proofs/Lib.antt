pub mod First
pub mod Merging
pub mod OneMerged
pub mod Places
pub mod Streaming
