pub mod Cells
pub mod Lent
pub mod Walks
pub mod Rounds
