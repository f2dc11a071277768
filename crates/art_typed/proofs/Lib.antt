pub mod Cuts
pub mod Events
pub mod Keys
pub mod Ranges
