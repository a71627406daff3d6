pub mod Parting
pub mod Spelling
pub mod ClaimText
