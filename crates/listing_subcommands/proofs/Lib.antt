pub mod DrainedDumps
pub mod GatheredDumps
pub mod DumpEnds
pub mod DumpStores
pub mod LoadCalls
pub mod LoadEnds
pub mod LineLemmas
pub mod ReadListings
