pub mod Cells
pub mod Counts
pub mod Laws
pub mod Listing
pub mod Rows
