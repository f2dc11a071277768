-- the crates below, for those above to name
pub use Rattle.art_sessions.proofs as ArtSessions
mod Lists
mod Chains
mod Starts
mod Joins
pub mod OneMap
