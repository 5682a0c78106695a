pub mod WindowRows
