pub mod Traces
pub mod Sessions
