pub mod Prints
pub mod Reports
