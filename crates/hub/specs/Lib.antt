pub mod Boards
pub mod Ports
pub mod Deals
