pub mod Numbers
pub mod Texts
pub mod Buffers
pub mod Split
pub mod Left
