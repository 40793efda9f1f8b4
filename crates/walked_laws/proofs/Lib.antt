pub mod Best
pub mod Listing
pub mod Main
pub mod Quiet
