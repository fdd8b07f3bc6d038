-- The definitions that the contracts cite.
pub mod Queues
pub mod Marks
pub mod Lines
pub mod Laws
pub mod Runs
