pub mod Numbers
pub mod Reduced
pub mod Held
pub mod Chosen
