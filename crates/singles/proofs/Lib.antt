pub mod Rules
pub mod Nearness
pub mod Answered
