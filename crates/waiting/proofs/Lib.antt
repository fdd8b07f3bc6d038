-- The lemmas of the crate.
pub mod Digits
pub mod Fronts
pub mod Lines
pub mod Marking
pub mod Orders
pub mod Turns
