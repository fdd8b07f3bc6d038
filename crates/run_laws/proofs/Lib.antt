-- The lemmas of the crate.
pub mod Counts
pub mod Ways
pub mod Orderly
pub mod Kept
pub mod Ready
pub mod Queues
pub mod Hubs
pub mod Links
pub mod Settled
pub mod Waits
pub mod Elements
pub mod Moves
