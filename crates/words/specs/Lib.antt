pub mod Refusals
pub mod Names
pub mod Spelled
pub mod Words
pub mod Shows
pub mod Pages
