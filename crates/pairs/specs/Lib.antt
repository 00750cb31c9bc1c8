pub mod Lengths
pub mod Sizes
