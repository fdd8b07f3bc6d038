pub mod Spans
pub mod Fields
pub mod Pages
pub mod Numerals
pub mod Same
pub mod Shown
