pub mod Clients
pub mod Letters
pub mod Turns
