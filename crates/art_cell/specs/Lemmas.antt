-- Lemmas that crates above cite.
pub mod Differing
pub mod Empty
pub mod Entries
pub mod Headers
pub mod LeafWords
pub mod Packed
pub mod ReadWords
