-- the crates below, for those above to name
pub use Rattle.art_plan.specs as ArtPlan
pub mod Enter
pub mod Exit
pub mod LeafWriter
pub mod Limbo
pub mod Pins
pub mod Reclaiming
pub mod Stocks
pub mod Taking
