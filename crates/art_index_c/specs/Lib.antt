pub mod Statuses
pub mod Columns
pub mod Held
pub mod Calls
pub mod Listing
pub mod Opening
