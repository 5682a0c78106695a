pub mod Answers
pub mod Demand
pub mod Laws
pub mod Shares
