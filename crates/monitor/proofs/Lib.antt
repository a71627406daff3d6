pub mod Gathered
pub mod Histories
pub mod Calls
pub mod Letters
pub mod Judged
