-- The laws that the crate's proofs cite.
pub mod Looking
pub mod Bases
