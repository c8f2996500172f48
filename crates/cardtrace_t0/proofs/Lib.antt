pub mod Writing
pub mod Holding
pub mod Playing
pub mod Openings
pub mod Whole
pub mod Stepping
