pub mod Counts
pub mod Entries
pub mod SlotsState
pub mod Faults
pub mod Keys
pub mod Leads
pub mod Areas
