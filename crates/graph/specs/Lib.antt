pub mod Graph
pub mod Encode
pub mod Steps
