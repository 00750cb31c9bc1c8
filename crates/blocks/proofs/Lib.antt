pub mod LeftOfBlock
pub mod Counts
pub mod ListSums
pub mod Adding
pub mod Taking
