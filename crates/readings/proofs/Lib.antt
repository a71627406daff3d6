pub mod Bits
pub mod Candidate
pub mod Found
pub mod Gathering
pub mod Worths
