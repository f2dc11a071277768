-- the crates below, for those above to name
pub use Rattle.art_plan.specs as ArtPlan
pub use Rattle.art_epoch.specs as ArtEpoch
pub use Rattle.art_find.specs as ArtFind
pub mod Asking
pub mod Attempts
pub mod Cases
pub mod Naming
pub mod Parts
pub mod Reserve
pub mod Rooms
pub mod Trying
pub mod Validate
