pub mod Oddly
