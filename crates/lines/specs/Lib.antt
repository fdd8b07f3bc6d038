pub mod Lines
pub mod Shows
pub mod Roles
