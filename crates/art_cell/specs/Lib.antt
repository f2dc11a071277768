pub mod Bodies
pub mod Children
pub mod KnownWords
pub mod Leaves
pub mod Lemmas
pub mod Reads
pub mod Words
