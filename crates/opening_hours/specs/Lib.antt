pub mod Calendar
pub mod Laws
pub mod Promised
