pub mod Obligations
pub mod Progress
pub mod Tables
