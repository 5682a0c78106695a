pub mod Given
pub mod Entries
pub mod Filled
pub mod Doubled
pub mod Needing
pub mod Counts
