pub mod Kept
pub mod Letters
pub mod Propers
pub mod WireStates
