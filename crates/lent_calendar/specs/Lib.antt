pub mod LentCalendar
pub mod Laws
pub mod Header
