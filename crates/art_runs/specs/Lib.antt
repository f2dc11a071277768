-- the crates below, for those above to name
pub use Rattle.art_change.specs as ArtChange
pub mod Alone
pub mod Ops
pub mod OthersIdle
pub mod Runs
pub mod Solo
pub mod Typed
pub mod TypedOps
