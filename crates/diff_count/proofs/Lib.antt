pub mod Reaching
pub mod Flips
pub mod Crossing
pub mod Outcomes
pub mod Told
pub mod OfSets
pub mod Theorems
