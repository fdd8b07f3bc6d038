pub mod Forms
pub mod Answers
pub mod Shown
