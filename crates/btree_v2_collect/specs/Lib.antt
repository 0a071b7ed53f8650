-- The definitions that the contracts of the crate cite.
pub mod Answers
pub mod Collecting
pub mod Walk
pub mod InFile
pub mod Collect
pub mod State
pub mod Opening
