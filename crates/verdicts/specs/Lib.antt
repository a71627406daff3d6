pub mod Meaning
pub mod Outcome
pub mod Scale
pub mod Step
pub mod YesNo
pub mod Valuation
pub mod Case
pub mod ThreeWay
