pub mod Judged
pub mod Paths
