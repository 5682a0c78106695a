pub mod Bound
pub mod Earliest
pub mod NoRow
pub mod Partial
pub mod Placing
pub mod RowExists
pub mod RowOrNone
pub mod Search
