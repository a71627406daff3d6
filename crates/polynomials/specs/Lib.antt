pub mod Held
pub mod Laws
pub mod Polynomial
pub mod Sets
