pub mod Layers
pub mod Figures
pub mod Blocks
pub mod Answers
