mod Endings
mod Turns
