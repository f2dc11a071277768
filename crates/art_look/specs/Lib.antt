-- the crates below, for those above to name
pub mod Asking
pub mod Driven
pub mod Fronts
pub mod Looks
pub mod PathBuffers
pub mod Seeks
pub mod Seen
pub mod Settlings
pub mod Sought
pub mod Straight
pub mod Table
pub mod Walks
