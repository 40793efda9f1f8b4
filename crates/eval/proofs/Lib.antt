pub mod Laws
pub mod Tree
pub mod Body
pub mod Fill
