pub mod Learnt
pub mod Lent
pub mod Many
pub mod New
