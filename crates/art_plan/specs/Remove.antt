pub mod Cases
pub mod Removals
