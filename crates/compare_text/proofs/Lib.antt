pub mod Spelling
pub mod Judging
pub mod Putting
pub mod Answering
pub mod Theorems
