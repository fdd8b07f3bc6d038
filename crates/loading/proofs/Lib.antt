-- That what is loaded is exactly the listings of scripts that have a program.
pub mod Loads
