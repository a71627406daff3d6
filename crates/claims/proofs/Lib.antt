pub mod Right
pub mod Accepted
pub mod Taken
pub mod Sound
pub mod Early
pub mod Complete
