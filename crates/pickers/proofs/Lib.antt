-- Lemmas that several proofs share.
pub mod Along
pub mod Replays
pub mod Decides
