pub mod Exact
pub mod Longest
pub mod Tree
