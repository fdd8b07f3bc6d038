pub mod Freed
pub mod Settled
pub mod Orders
pub mod Places
