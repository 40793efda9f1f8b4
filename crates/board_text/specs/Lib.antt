pub mod Board
pub mod Steps
