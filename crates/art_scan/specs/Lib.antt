-- the crates below, for those above to name
pub use Rattle.art_table.specs.ArtChange
pub use Rattle.art_table.specs.ArtRefusal
pub use Rattle.art_table.specs as ArtTable
pub mod Alone
pub mod Endings
pub mod Ends
pub mod Laws
pub mod Refusals
pub mod Running
pub mod Scans
pub mod Tiles
pub mod Tilings
