-- the crates below, for those above to name
mod Allowed
pub mod Answered
pub mod Closes
mod Counted
pub mod Counting
pub mod Driven
mod Ends
pub mod GivenUp
pub mod Going
mod JustPast
pub mod Parts
mod Pinned
pub mod SeekEnds
mod SeekGoes
mod Settlings
mod Spelling
pub mod Stages
mod Table
pub mod Told
mod Walking
