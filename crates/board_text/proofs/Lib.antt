pub mod Put
pub mod Joint
pub mod Reading
pub mod Exact
