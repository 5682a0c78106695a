pub mod Laws
pub mod TextValue
