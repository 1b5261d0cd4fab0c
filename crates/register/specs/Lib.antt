pub mod Tables
pub mod Registers
pub mod Comparing
pub mod Runs
