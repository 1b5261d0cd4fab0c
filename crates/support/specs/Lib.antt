pub mod Supports
pub mod Exchange
