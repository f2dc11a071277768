-- the crates below, for those above to name
pub use Rattle.art_scan.proofs as ArtScan
mod ReplyLaws
mod TextLaws
mod Printable
pub mod EndingLaws
pub mod StreamLaws
pub mod GivenLines
mod HeldLines
mod SessionLaws
mod StepLaws
pub mod ReadLaws
pub mod CountLaws
mod PassLaws
