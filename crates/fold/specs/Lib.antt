pub mod Test
pub mod Fold
pub mod Sums
pub mod Counting
pub mod Listed
pub mod Table
pub mod Column
pub mod First
