mod Asking
mod Building
mod Handing
mod Lookups
mod Obstacles
mod Timing
