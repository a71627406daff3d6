pub mod Claimed
pub mod Replayed
