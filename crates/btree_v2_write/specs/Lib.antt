-- The definitions that the contracts of the crate cite.
pub mod Filled
pub mod Shares
pub mod Subtrees
pub mod Call
