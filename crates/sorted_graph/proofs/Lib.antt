pub mod Numbers
mod Rows
mod Reply
pub mod Written
pub mod Samples
