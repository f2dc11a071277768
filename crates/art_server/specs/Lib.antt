-- the crates below, for those above to name
pub use Rattle.art_scan.specs.ArtChange
pub use Rattle.art_scan.specs.ArtRefusal
pub use Rattle.art_scan.specs as ArtScan
pub use Rattle.art_scan.specs.ArtTable
pub mod Replies
pub mod Streams
pub mod Sessions
pub mod Endings
pub mod Given
pub mod Counted
pub mod Reads
pub mod Lines
pub mod HeldLines
pub mod Steps
