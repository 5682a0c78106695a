pub mod Dates
pub mod DateLaws
pub mod Numbering
