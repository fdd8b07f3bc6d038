-- The statements.
pub mod Orderly
pub mod Settled
pub mod Waits
pub mod Elements
pub mod Moves
