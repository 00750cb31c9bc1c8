pub mod Formats
pub mod Values
pub mod Figures
