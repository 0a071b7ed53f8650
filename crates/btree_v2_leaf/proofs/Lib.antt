-- The laws of a leaf's tests, which serve the collector too.
pub mod Checksums
pub mod Records
