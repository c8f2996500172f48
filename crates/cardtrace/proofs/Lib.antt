pub mod Turning
pub mod Stepping
