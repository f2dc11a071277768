pub mod AnyChange
pub mod CommitLaws
pub mod OtherDeeds
pub mod Renewals
pub mod TwoChanges
