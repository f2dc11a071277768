-- the crates below, for those above to name
pub use Rattle.art_server.specs as ArtServer
pub mod Maps
pub mod Points
pub mod Talks
pub mod Laws
