pub mod TextRolling
pub mod Laws
pub mod Ways
pub mod Means
pub mod Header
