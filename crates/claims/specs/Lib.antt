pub mod Ways
pub mod Any
pub mod Claims
pub mod Written
pub mod Bound
pub mod Posed
pub mod Told
