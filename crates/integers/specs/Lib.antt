pub mod Roots
pub mod Rounding
