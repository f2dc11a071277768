pub mod Allowed
mod ComparedWords
pub mod Counting
mod Descending
pub mod Driven
pub mod FoundPlaces
mod Going
mod Hearing
mod Judged
pub mod Keeping
mod LeafKeys
pub mod Looks
mod NodeWords
mod Passing
mod Placing
pub mod Runs
pub mod Stages
mod Standing
mod VerdictValues
