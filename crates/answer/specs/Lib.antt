pub mod Answer
pub mod Decode
