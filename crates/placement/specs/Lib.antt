pub mod Units
pub mod Parts
pub mod Twelve
