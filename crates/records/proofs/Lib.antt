pub mod TwosComplement
pub mod Kind1
pub mod EveryKind
pub mod Framing
pub mod Sequence
