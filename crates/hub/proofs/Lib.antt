pub mod Boards
pub mod Places
pub mod Sends
pub mod Receives
pub mod Closes
pub mod Laid
pub mod Asks
