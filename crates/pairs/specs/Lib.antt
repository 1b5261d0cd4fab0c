pub mod Units
pub mod Records
pub mod Products
pub mod Axes
pub mod Directions
pub mod Gaps
pub mod Facets
pub mod Claims
