pub mod FileCalls
pub mod Refusals
pub mod UpgradeCalls
