pub mod Laws
pub mod ListedPaths
pub mod ListedEntries
pub mod Exact
pub mod Tree
pub mod Longest
