pub mod Defaults
pub mod Functions
pub mod Nets
pub mod Parts
pub mod Rings
pub mod States
pub mod Sums
pub mod Wires
