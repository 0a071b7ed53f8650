-- The definitions that the contracts of the program cite.
pub mod Counted
pub mod Inputs
