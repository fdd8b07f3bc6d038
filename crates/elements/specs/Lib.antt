pub mod Codes
pub mod Same
