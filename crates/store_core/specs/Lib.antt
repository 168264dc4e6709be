pub mod Known
pub mod Loads
pub mod Opening
pub mod StoreCalls
pub mod StoreFields
pub mod StoreState
pub mod Streams
pub mod Walks
