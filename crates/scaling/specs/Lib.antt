pub mod Quotient
pub mod Scaling
pub mod Figures
