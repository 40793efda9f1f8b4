pub mod Round
pub mod Main
pub mod Place
