pub mod EachBlock
pub mod LayerOutcome
pub mod Accepted
