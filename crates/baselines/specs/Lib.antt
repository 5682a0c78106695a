pub mod Baselines
pub mod Laws
pub mod Savings
