pub mod Commands
pub mod Counts
pub mod Loads
pub mod Threads
pub mod Own
pub mod Left
pub mod Closes
