pub mod Records
pub mod Lines
pub mod MarkedLines
pub mod PeriodicLines
pub mod Senders
