pub mod Layouts
pub mod Places
pub mod Pushes
pub mod Queued
pub mod QueuesOf
pub mod Rings
