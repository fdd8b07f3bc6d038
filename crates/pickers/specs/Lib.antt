-- The definitions that contracts cite, and the facts that the laws of our two pickers rest on.
pub mod Sets
pub mod SetFacts
pub mod Meaning
pub mod Turning
pub mod TurningFacts
pub mod Schedule
pub mod ScheduleFacts
pub mod Choosing
pub mod Shown
pub mod Recording
pub mod Examples
