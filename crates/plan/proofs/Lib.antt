-- The laws of the crate's definitions, which the crates above cite too.
pub mod Distributing
pub mod Lists
pub mod Plans
pub mod Thin
pub mod Trees
pub mod Counting
pub mod Accepted
pub mod Checks
pub mod Depths
pub mod Searching
pub mod Laying
