pub mod Items
pub mod Registers
pub mod States
