-- the crate below, for those above to name
pub use Rattle.art_refusal.specs as ArtRefusal
pub mod Lines
pub mod Tokens
pub mod Verbs
pub mod Cursors
pub mod Readers
pub mod Refusals
