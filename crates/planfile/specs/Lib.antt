pub mod PlanText
pub mod Size
pub mod Reached
pub mod Laws
