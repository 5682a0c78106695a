pub mod Laws
pub mod TextSavings
