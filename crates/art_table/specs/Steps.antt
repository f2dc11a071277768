-- What is said of the steps of a call, handed on to the crates above.
pub use Rattle.art_change.specs.Calls.{HoldsOrTold}
pub use Rattle.art_change.specs.Made.{MakesStep}
pub use Rattle.art_change.specs.declared.driver.Made.{Made}
