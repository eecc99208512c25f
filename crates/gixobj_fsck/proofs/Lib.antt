pub mod CommitMessages
mod HeaderBlocks
pub mod CommitOutcomes
pub mod MessageSets
pub mod Numbers
pub mod Outcomes
pub mod Parts
pub mod SpanParts
