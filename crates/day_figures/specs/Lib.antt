pub mod Figures
pub mod Laws
pub mod Means
