-- the crates below, for those above to name
pub use Rattle.art_attempt.specs as ArtAttempt
pub use Rattle.art_attempt.specs.ArtPlan
pub use Rattle.art_epoch.specs as ArtEpoch
pub use Rattle.art_find.specs as ArtFind
pub use Rattle.art_look.specs as ArtLook
pub mod AsAsked
pub mod Calls
pub mod Kinds
pub mod Made
pub mod Outcomes
pub mod Writes
