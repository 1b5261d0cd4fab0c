pub mod Hulls
pub mod Terms
