pub mod Causes
pub mod Shows
pub mod Prints
pub mod Bounds
pub mod Examples
