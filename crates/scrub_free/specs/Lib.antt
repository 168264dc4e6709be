pub mod FreeSlots
pub mod ScrubCalls
pub mod ScrubbedSlots
pub mod Scrubbing
