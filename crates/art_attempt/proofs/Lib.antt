-- the crates below, for those above to name
pub use Rattle.art_plan.proofs as ArtPlan
pub use Rattle.art_epoch.proofs as ArtEpoch
pub use Rattle.art_find.proofs as ArtFind
pub mod Asked
pub mod CaseCells
pub mod Chosen
pub mod Commits
pub mod Counts
pub mod Ends
pub mod Finds
pub mod Free
pub mod Given
mod Heard
pub mod LastCheck
pub mod Left
mod LongPaths
pub mod Looks
mod LowerBegins
pub mod LowerNames
pub mod LowerSeen
pub mod Names
pub mod Numbers
pub mod Overlaps
pub mod OneStep
mod Phases
mod Rereads
mod RereadsGoOn
mod Spending
pub mod Spent
mod Stages
pub mod Standing
pub mod Steps
pub mod Reserves
pub mod Tries
pub mod Validates
