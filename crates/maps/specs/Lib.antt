pub mod Charts
pub mod Graphs
pub mod Moves
pub mod Searches
