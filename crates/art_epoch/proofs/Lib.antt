-- the crates below, for those above to name
pub use Rattle.art_plan.proofs as ArtPlan
mod Blocking
mod Closes
pub mod Opens
pub mod PackedLeaves
pub mod Pinned
pub mod Reclaimed
pub mod Searching
pub mod Stocked
pub mod Waiting
