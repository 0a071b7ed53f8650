-- The definitions that the contract of the three calls cites, and the table of figures.
pub mod Nodes
pub mod ThreeCalls
pub mod Figures
pub mod Looks
pub mod Return
