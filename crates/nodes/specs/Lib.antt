pub mod Nodes
pub mod Steps
pub mod Text
pub mod Tree
