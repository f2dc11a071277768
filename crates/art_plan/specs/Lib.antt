-- the crates below, for those above to name
pub use Rattle.art_commit.specs as ArtCommit
pub use Rattle.art_find.specs as ArtFind
pub mod Apply
pub mod Changes
pub mod ChooseInsert
pub mod ChooseRemove
pub mod Insert
pub mod NewWords
pub mod Puts
pub mod Remove
pub mod Renewing
pub mod Seen
pub mod Whole
