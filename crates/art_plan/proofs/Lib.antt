-- the crates below, for those above to name
pub use Rattle.art_commit.proofs as ArtCommit
mod AbovePuts
pub mod AboveSites
mod Allowed
mod BesideWords
mod BodyForms
pub mod ChildPlaces
mod ChildSites
pub mod Committing
mod CutWords
mod EmptyTrees
pub mod FewChildren
mod ForkNodes
mod FoundLeaves
mod FreeBytes
mod FullNodes
pub mod GoneNodes
mod GrownNodes
mod Holding
pub mod Keeping
mod LedChildren
mod LeftChildren
mod ListedPairs
mod LockedCells
mod Locking
mod LowerNodes
mod MadeChanges
mod MadeNodes
mod MovedPuts
pub mod NamedChildren
mod NewWords
mod OtherChildren
mod OtherLeaves
mod PlannedAdds
mod PlannedDrops
mod PlannedForks
mod PlannedGrows
mod PlannedMerges
mod PlannedPrefixes
mod PlannedShrinks
mod Planning
mod PrefixBytes
mod PrefixMismatches
mod PutWords
mod ReadyCells
pub mod Renewing
mod RenewingBelow
mod RootWords
pub mod SeenBodies
mod ShrunkNodes
pub mod SiteWords
mod SmallerNodes
pub mod Told
pub mod WholeCells
pub mod WordsWithin
pub mod Written
