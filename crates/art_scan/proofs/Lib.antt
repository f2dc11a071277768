-- the crates below, for those above to name
pub use Rattle.art_table.proofs as ArtTable
pub mod Alone
mod Begun
mod Between
mod Bounds
mod Commands
mod Ended
mod Found
mod Keys
pub mod Listed
mod LooksOn
mod Over
mod Replays
mod Tiled
