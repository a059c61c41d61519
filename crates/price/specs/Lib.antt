pub mod Kind
pub mod Sums
pub mod WrittenKind
