pub mod Plan
pub mod Steps
pub mod Text
pub mod Tree
