pub mod Building
pub mod Line
pub mod Requests
