mod Totals
mod Members
mod Starts
mod Counted
mod ReplyKinds
mod Told
mod Left
mod Passes
pub mod Closes
