-- The laws behind the claim on the three calls, and the table of figures.
pub mod Roots
pub mod Claims
pub mod Figures
pub mod Summed
pub mod Looks
pub mod HeaderReturn
pub mod Collected
pub mod Image
pub mod Returned
pub mod Trials
