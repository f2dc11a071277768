mod Steps
pub mod Alone
pub mod Places
mod Events
pub mod Goes
mod Calls
mod Scans
pub mod Points
pub mod Talks
mod Standing
pub mod OneMap
