pub mod Fields
pub mod PathOrder
pub mod Reading
