-- The laws of records by their meaning.
mod Table
pub mod Fields
pub mod Values
pub mod Calls
pub mod Widths
pub mod Inverse
mod Trials
