pub mod Held
pub mod Fields
pub mod Text
pub mod Shape
pub mod Exact
