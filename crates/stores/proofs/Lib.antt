pub mod FoundRow
pub mod Handed
