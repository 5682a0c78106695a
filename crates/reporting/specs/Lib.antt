pub mod Period
pub mod Laws
pub mod Promised
