pub mod TextPlan
pub mod Laws
pub mod Means
