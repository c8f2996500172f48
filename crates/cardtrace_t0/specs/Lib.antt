pub mod Cards
pub mod Traces
pub mod Sessions
pub mod Plays
