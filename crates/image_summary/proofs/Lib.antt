mod Zeros
pub mod Sums
