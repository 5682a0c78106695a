pub mod TextPeriod
pub mod Laws
