pub mod Procedures
pub mod Lent
pub mod Underway
pub mod Complete
pub mod Laws
pub mod Selected
pub mod Blind
