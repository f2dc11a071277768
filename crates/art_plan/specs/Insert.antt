pub mod Cases
pub mod Puts
