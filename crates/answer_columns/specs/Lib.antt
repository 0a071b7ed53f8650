-- The definition that the contracts of the crate cite.
pub mod Columns
