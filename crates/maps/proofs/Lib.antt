pub mod Ways
pub mod Bars
