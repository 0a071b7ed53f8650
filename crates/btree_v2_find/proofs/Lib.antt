-- The laws of finding: those of its code, and what its answers say.
mod Searching
mod Descending
mod Calls
pub mod Bases
pub mod Changed
pub mod Keys
pub mod Nodes
pub mod Sorted
pub mod Everywhere
pub mod Trials
