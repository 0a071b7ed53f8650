-- The laws of the crate's definitions; Promise is what libraries above cite.
pub mod Laws
pub mod Bounds
pub mod Promise
