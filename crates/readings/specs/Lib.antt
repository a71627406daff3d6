pub mod Listed
pub mod Meaning
pub mod Words
pub mod Panel
pub mod Binding
pub mod Finding
