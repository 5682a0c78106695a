pub mod Days
pub mod Lines
pub mod Calls
pub mod Table
