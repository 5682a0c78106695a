pub mod Days
pub mod Lines
pub mod Table
