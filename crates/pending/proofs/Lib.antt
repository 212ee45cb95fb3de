pub mod Settling
pub mod Compacting
pub mod Moving
pub mod Pushing
pub mod Sound
