pub mod Edits
pub mod Sorted
