pub mod Planning
pub mod Laws
pub mod Demand
pub mod Answers
pub mod Shares
