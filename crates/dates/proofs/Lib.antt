pub mod DateLaws
pub mod Equal
pub mod Following
pub mod Numbering
pub mod Rules
