pub mod Programs
pub mod Naming
pub mod Parts
pub mod Links
pub mod Stages
pub mod Sound
pub mod Meaning
pub mod Answers
