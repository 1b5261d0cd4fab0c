pub mod Walks
pub mod Comparisons
pub mod Parts
pub mod Stored
pub mod Answers
pub mod Runs
