pub mod Trials
pub mod Samples
pub mod Boards
