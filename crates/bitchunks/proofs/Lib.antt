pub mod Mask
pub mod Walk
pub mod Rows
pub mod Shown
pub mod Giving
pub mod Counts
pub mod Totals
