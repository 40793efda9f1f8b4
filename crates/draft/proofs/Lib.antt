pub mod Drafts
pub mod Texts
