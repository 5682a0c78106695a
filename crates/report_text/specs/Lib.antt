pub mod ReportText
pub mod Laws
pub mod Size
