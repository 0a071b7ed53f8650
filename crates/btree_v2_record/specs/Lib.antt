-- The definitions that the contracts of the crate cite, and those of its theorems (Inverse).
pub mod Records
pub mod Answers
pub mod Inverse
pub mod Steps
