pub mod Laid
pub mod Codes
pub mod Header
pub mod Past
pub mod Stores
