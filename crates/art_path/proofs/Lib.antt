mod CommonFront
mod ComparedWords
pub mod Comparing
mod JustAbove
pub mod PackedTexts
