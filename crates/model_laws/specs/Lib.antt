pub mod Examples
pub mod Headers
pub mod Compute
pub mod Within
pub mod ShortFiles
