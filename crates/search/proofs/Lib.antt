pub mod Inner
pub mod Links
pub mod Parents
pub mod Turns
pub mod Outcome
pub mod Back
pub mod Inward
