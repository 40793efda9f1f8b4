pub mod Sources
pub mod Numbers
pub mod Meant
pub mod Table
pub mod Every
pub mod SameMap
