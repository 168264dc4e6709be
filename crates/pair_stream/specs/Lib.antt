pub mod GroupReads
pub mod Starts
pub mod Streams
