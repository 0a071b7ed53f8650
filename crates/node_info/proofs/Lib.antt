-- The laws of the crate's definitions, which the crates above cite too.
pub mod Columns
pub mod Capacities
pub mod Growing
