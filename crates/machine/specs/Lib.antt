pub mod Memory
pub mod Needs
pub mod Starts
pub mod Placing
