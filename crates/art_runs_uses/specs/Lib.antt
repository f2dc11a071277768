pub mod Benches
pub mod Writes
