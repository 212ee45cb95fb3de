pub mod Passing
pub mod Soundness
pub mod Verdicts
