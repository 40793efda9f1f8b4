pub mod Laws
pub mod ByNumber
pub mod Library
