pub mod Decimals
pub mod Writing
pub mod Turns
pub mod KindLengths
pub mod Lengths
pub mod Limit
