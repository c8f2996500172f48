pub mod Same
pub mod Reading
pub mod Judging
