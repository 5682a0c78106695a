pub mod Interface
pub mod Returns
pub mod Moving
pub mod Long
pub mod Season
