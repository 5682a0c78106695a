pub mod Answering
pub mod Laws
pub mod Printed
pub mod Before
