pub mod Soundness
pub mod Verdicts
