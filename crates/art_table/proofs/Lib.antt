pub mod Answered
mod AtOnce
mod Begun
mod Ended
mod GivenUp
mod Here
mod Histories
mod Looked
pub mod Members
mod Opened
mod Stepped
mod Whole
