mod Agreeing
pub mod Answered
mod Calling
mod Causes
mod CursorPrefixes
mod Edited
mod EnsuredAt
mod FoundBelow
mod Keeping
mod Kept
pub mod KeptPairs
mod Named
pub mod OneId
mod LongerRuns
mod OpenedOn
pub mod PlainRuns
mod RemovedAt
mod Replied
pub mod Reported
mod RootAlone
mod WrittenBelow
mod WrittenOut
