pub mod Answers
pub mod Signable
