pub mod Given
pub mod Tables
pub mod Shown
pub mod Touched
pub mod Standing
pub mod Joint
pub mod Values
