pub mod Bottoms
pub mod Ends
mod FromStart
pub mod Kept
pub mod Marked
pub mod Paths
pub mod Queued
pub mod Replaced
pub mod SettledAt
pub mod SharedMarks
pub mod Spread
pub mod Tests
