pub mod DumpCall
pub mod Dumping
pub mod Filling
pub mod Listings
pub mod LoadCall
