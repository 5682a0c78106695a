pub mod LongAnswering
pub mod Laws
pub mod LongPrinted
