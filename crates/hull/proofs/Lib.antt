pub mod FaceTable
pub mod WeightLaws
pub mod Same
