pub mod Codes
pub mod Halves
pub mod Strips
pub mod Stages
