-- The laws behind the functions' proofs: Frames serves the crates above too.
pub mod Frames
pub mod Headers
