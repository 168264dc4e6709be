pub mod StoreStreams
pub mod Parts
pub mod PartKeys
pub mod PartsStreams
pub mod Pulling
pub mod Reading
pub mod Rooted
