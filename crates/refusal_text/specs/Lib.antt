pub mod Laws
pub mod RefusalText
