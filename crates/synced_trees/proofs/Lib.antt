pub mod Leads
pub mod Laying
pub mod Cutting
pub mod Unsetting
pub mod Taking
mod Synced
pub mod Reached
pub mod Lines
pub mod Planned
