pub mod LineLaws
mod CursorLaws
mod NumberLaws
mod TokenLaws
mod TupleLaws
