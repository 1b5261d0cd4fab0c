mod Growth
mod Telling
