mod Counted
mod Listed
pub mod Members
mod Read
pub mod Spelled
pub mod Waiting
mod Walk
mod Whole
