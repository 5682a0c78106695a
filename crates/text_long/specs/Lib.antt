pub mod TextLong
pub mod Laws
pub mod Means
