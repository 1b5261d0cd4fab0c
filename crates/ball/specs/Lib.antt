pub mod Balls
pub mod BallLaws
