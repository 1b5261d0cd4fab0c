pub mod Units
pub mod Faces
pub mod Weights
pub mod Measures
pub mod Directions
