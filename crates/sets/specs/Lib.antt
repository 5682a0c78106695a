pub mod Mask
pub mod Subset
pub mod Rest
pub mod FewOnes
pub mod Members
