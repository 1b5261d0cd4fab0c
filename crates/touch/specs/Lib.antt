pub mod Due
pub mod Facets
pub mod Faults
pub mod Reports
