pub mod Copying
pub mod Crashes
pub mod Images
pub mod Recording
pub mod Faults
