pub mod Runs
pub mod Cases
pub mod Taking
pub mod Steps
pub mod Orderly
pub mod Questions
