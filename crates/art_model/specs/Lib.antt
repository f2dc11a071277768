pub mod Answers
pub mod Laws
pub mod Places
pub mod Rows
pub mod Scans
pub mod Values
pub use Rattle.arrayvec.specs.ArrayVec
