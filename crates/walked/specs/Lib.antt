pub mod Walked
pub mod Steps
