pub mod Patterns
pub mod Blocks
pub mod Figures
