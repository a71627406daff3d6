pub mod Fill
pub mod Laws
pub mod Lift
pub mod Recur
pub mod Rules
pub mod Steps
pub mod Traced
pub mod Valuing
