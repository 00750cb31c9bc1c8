pub mod Judging
pub mod Tests
pub mod WidthBits
