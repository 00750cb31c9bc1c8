pub mod Powers
pub mod Strips
