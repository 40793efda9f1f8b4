pub mod Reply
pub mod Steps
pub mod Answered
