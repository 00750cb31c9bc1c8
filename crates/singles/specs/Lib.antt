pub mod Singles
pub mod Meaning
pub mod Answers
pub mod Figures
