pub mod Back
pub mod Normals
pub mod Values
