mod Apps
mod Subcommands
mod Asked
mod Refused
pub mod Known
mod Runs
mod Numbers
mod Passes
mod Stepped
mod Ranges
mod Backs
mod Loaded
mod Digits
mod Performed
