pub mod Fusion
pub mod Steps
