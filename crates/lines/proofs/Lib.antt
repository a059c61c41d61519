pub mod Joins
mod Digits
mod Cuts
