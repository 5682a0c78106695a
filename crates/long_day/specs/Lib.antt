pub mod LongDay
pub mod LongLaws
