-- the crates below, for those above to name
pub use Rattle.art_attempt.proofs as ArtAttempt
pub use Rattle.art_attempt.proofs.ArtPlan
pub use Rattle.art_epoch.proofs as ArtEpoch
pub use Rattle.art_find.proofs as ArtFind
pub use Rattle.art_look.proofs as ArtLook
pub mod Answered
mod AtOnce
mod CallsGivenUp
mod Causes
pub mod Counted
pub mod Endings
mod Events
pub mod FrameSteps
mod Frames
pub mod GivenUp
pub mod Newcomers
pub mod Overlaps
pub mod Ready
mod SameWrite
mod Sought
mod SoughtSteps
pub mod Staged
mod StepKinds
mod Steps
mod Written
