pub mod LongPlanning
pub mod Laws
pub mod Promised
