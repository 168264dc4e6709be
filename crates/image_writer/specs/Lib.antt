pub mod Filling
pub mod Placing
pub mod Sealing
pub mod Writing
