pub mod SizeKind
pub mod RankedKind
