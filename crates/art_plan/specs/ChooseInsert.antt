pub mod Bodies
pub mod Needs
pub mod Plans
pub mod Seen
