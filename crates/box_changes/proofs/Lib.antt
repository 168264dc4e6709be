mod Asked
mod Opened
mod Statuses
mod Told
