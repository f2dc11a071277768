-- the crates below, for those above to name
pub use Rattle.art_change.specs as ArtChange
pub use Rattle.art_refusal.specs as ArtRefusal
pub mod Attempts
pub mod Calls
pub mod Closing
pub mod Jobs
pub mod Looks
pub mod Marks
pub mod Opening
pub mod Refusals
pub mod Sizes
pub mod Tables
pub mod Steps
