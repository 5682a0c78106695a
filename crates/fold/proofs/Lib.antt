pub mod Chains
pub mod Ranges
pub mod Searches
pub mod Filled
