pub mod Contents
pub mod Layouts
pub mod Answers
pub mod Laws
