pub mod Pieces
pub mod Readings
pub mod Showing
pub mod Kept
