-- The proofs of the laws, from numbers up to lines.
pub mod Numbers
pub mod WordLaws
pub mod LineLaws
