pub mod Joins
pub mod Picks
pub mod Steps
