pub mod Losses
pub mod Others
pub mod Plans
pub mod Seen
