pub mod Query
pub mod Tree
