-- The laws that the crate's proofs cite: Nodes serves the crates above too.
pub mod Nodes
