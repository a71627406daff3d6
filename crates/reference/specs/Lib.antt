pub mod Cases
pub mod Printed
