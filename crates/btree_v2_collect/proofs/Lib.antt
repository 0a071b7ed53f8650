-- The laws that the crate's proofs cite.
pub mod Reached
pub mod Changed
mod Calls
mod Opening
pub mod Bases
mod Holding
mod Putting
mod Steps
pub mod Nodes
pub mod Walking
pub mod Outcomes
pub mod Fronts
pub mod Puts
pub mod Sound
pub mod Balance
pub mod InFile
pub mod Tested
pub mod Places
mod Moves
