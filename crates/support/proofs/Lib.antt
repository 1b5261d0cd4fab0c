pub mod Shares
pub mod Tops
pub mod Sums
pub mod FacedLaws
pub mod Decompositions
pub mod Tables
pub mod Exchange
