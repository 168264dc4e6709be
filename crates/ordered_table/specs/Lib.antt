pub mod Tables
pub mod InsertionWays
pub mod MemSlots
