pub mod Bytes
pub mod Reply
pub mod Decoded
pub mod Samples
