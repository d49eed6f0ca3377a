pub mod Moves
pub mod Transfer
