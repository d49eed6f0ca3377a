pub mod Left
pub mod Lines
pub mod Rest
pub mod Same
pub mod Values
pub mod Written
