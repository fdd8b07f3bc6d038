-- The lemmas of the crate.
pub mod Along
pub mod Making
pub mod Filled
pub mod FromStart
pub mod OneMore
