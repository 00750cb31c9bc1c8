pub mod Methods
pub mod Refusals
