pub mod Blocks
pub mod Checks
pub mod Clean
pub mod Counting
pub mod Free
pub mod Phases
pub mod Stages
