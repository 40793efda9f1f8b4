pub mod Rows
pub mod Accepted
pub mod Bytes
pub mod Table
pub mod Fits
pub mod Exact
pub mod Judged
pub mod Samples
