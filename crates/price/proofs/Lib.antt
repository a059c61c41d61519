pub mod Limits
pub mod Exact
pub mod Order
