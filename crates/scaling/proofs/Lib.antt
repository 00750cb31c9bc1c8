pub mod Unique
pub mod Quotient
pub mod Division
pub mod SizeTests
pub mod ScaledOutcome
