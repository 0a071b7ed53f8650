-- The laws behind the functions' proofs.
pub mod Outputs
pub mod Accepted
pub mod Fitting
mod Checking
