pub mod Lines
pub mod Laws
pub mod RowSize
pub mod Reader
pub mod ReaderLaws
