pub mod Lawful
pub mod Statuses
pub mod Commands
pub mod Refusals
pub mod Judging
pub mod Applications
