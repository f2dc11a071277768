pub mod Order
pub mod Owed
pub mod Parts
pub mod Places
pub mod TextOrder
