pub mod ChangedWords
pub mod KnownLemmas
pub mod Parts
