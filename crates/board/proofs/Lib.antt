pub mod Rounds
pub mod Slots
pub mod Meant
pub mod Loops
pub mod Answers
pub mod SameMap
