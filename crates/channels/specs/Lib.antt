pub mod Seen
pub mod Rules
pub mod Receives
pub mod Closes
pub mod Printed
pub mod Settled
pub mod Orders
pub mod Places
