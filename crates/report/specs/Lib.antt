pub mod Endings
pub mod Reports
pub mod Turns
