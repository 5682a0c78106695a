pub mod Bound
pub mod NoRow
pub mod Earliest
pub mod Partial
pub mod RowExists
pub mod Search
