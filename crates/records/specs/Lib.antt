pub mod Fields
pub mod Kinds
pub mod Frames
pub mod Records
pub mod Answers
pub mod Figures
