-- the crates below, for those above to name
pub use Rattle.art_scan.specs as ArtScan
pub use Rattle.art_scan.specs.ArtTable
pub mod Handles
