mod Printing
mod Counting
pub mod Flushing
mod ReadFlushing
mod Storing
