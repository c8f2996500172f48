pub mod Growing
pub mod Periods
pub mod Marks
