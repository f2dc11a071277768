pub mod Differing
pub mod Index
pub mod Plans
pub mod Steps
pub mod Writes
