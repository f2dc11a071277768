pub mod Results
pub mod Overwrites
pub mod Said
pub mod Texts
pub mod Called
pub mod Scanned
pub mod AsBox
pub mod OpaqueSteps
