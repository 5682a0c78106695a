pub mod Parsed
pub mod Decimal
pub mod Laws
pub mod Place
pub mod PlaceLaws
