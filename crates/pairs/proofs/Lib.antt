pub mod Same
pub mod Words
pub mod Entries
pub mod Identities
pub mod Sides
pub mod PairLaws
pub mod AxisLaws
pub mod Examples
