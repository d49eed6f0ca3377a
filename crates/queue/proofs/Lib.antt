pub mod Places
pub mod QueuesOf
pub mod Rings
