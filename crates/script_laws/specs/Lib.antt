-- The statements of the laws.
pub mod Laws
pub mod Lawful
pub mod Exact
