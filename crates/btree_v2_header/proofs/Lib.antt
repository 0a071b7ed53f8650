-- The laws that the crate's proofs cite.
pub mod Headers
pub mod Bases
