pub mod PeriodAnswering
pub mod Laws
pub mod PeriodPrinted
