pub mod HostNames
pub mod HostPaths
pub mod Reading
