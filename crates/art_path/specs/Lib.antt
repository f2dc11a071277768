pub mod Common
pub mod Compared
