pub mod Sorted
pub mod Steps
