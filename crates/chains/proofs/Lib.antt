pub mod Attaches
pub mod Clears
pub mod Detaches
pub mod Nets
pub mod Pushes
pub mod Spots
pub mod Wires
