pub mod WorkedOut
