mod Followed
mod Fronts
mod LineLaws
mod StepLaws
mod Ends
mod SeatLaws
mod AdvanceLaws
mod DeskLaws
mod TaskLaws
mod WayLaws
mod Tellings
mod Standings
mod Places
mod Rests
mod Comings
mod Doings
pub mod OneHistory
