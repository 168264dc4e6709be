pub mod Differing
pub mod Faults
pub mod MirrorCalls
pub mod Pairs
