pub mod Apart
pub mod Read
pub mod Standing
pub mod Shown
