pub mod Text
pub mod Lines
pub mod Transcripts
pub mod Answers
pub mod Figures
