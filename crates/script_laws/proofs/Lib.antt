-- The proofs of the laws: line by line, by names, counts and order, and of the whole.
pub mod Kept
pub mod Names
pub mod Counts
pub mod Shapes
pub mod Whole
pub mod Exact
