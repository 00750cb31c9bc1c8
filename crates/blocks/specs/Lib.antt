pub mod Residues
pub mod Counts
pub mod Sums
pub mod Filled
