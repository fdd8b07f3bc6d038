pub mod Holding
pub mod Turns
pub mod Histories
pub mod Apart
