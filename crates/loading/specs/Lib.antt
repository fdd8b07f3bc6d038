-- What loading a text answers.
pub mod Loads
