-- The definitions that the contracts of the crate cite.
pub mod Answer
pub mod Told
