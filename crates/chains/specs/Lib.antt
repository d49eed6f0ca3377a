pub mod Changes
pub mod Linkages
pub mod Propers
pub mod Spots
pub mod Tables
pub mod WireStates
