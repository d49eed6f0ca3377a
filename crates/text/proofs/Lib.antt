pub mod Cuts
pub mod Ended
pub mod Equal
pub mod Fitted
pub mod Numerals
pub mod Valued
pub mod Writes
