pub mod CommitHolds
pub mod Lasting
pub mod LeftOver
pub mod Moving
pub mod Standing
pub mod TakenTurns
pub mod ViewLists
