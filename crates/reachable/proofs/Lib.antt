pub mod Exact
pub mod Search
pub mod Sizes
pub mod Visits
