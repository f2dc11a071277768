-- the crates below, for those above to name
pub use Rattle.art_sessions.specs as ArtSessions
pub mod Faults
pub mod Serving
