mod Ascending
mod Differing
mod Edited
mod Keyed
pub mod NodeWords
mod Planned
mod Shifted
pub mod Writing
