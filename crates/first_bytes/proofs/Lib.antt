pub mod Query
pub mod Graph
pub mod Files
