pub mod ChildWords
pub mod Copies
mod Forked
mod InOrder
mod KeyBytes
mod LeafWords
mod Lookups
pub mod OfLayout
mod Prefixed
mod SoughtWords
