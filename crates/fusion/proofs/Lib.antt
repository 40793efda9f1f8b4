pub mod Parts
pub mod Refusal
pub mod Selected
pub mod Fused
pub mod Exact
