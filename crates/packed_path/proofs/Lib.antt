pub mod Keys
pub mod Sources
pub mod Packed
