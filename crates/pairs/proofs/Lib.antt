pub mod Integers
pub mod Counting
