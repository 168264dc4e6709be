pub mod Faults
pub mod Founds
pub mod FileTakers
pub mod Reads
pub mod StoreReads
pub mod Lists
