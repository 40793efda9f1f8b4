pub mod Wire
pub mod Header
pub mod Refusal
