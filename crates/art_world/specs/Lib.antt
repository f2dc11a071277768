pub mod Contents
pub mod Lasting
pub mod Opening
pub mod Stepper
pub mod Turns
