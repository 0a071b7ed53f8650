-- The laws behind the functions' proofs.
pub mod Puts
pub mod Nodes
pub mod Internal
pub mod Planned
pub mod Subtrees
pub mod Calls
