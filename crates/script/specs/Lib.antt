pub mod Rules
pub mod Drafts
pub mod Texts
pub mod Kept
pub mod States
