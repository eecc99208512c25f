pub mod Actors
pub mod Commits
pub mod Dates
pub mod Headers
pub mod Lines
pub mod Spans
pub mod Steps
