pub mod Asked
pub mod Agreeing
