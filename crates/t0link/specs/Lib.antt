pub mod Laws
pub mod Links
pub mod Resting
pub mod LinkLaws
