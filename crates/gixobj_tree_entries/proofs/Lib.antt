mod Blocks
pub mod ByteSix
mod EightBytes
mod EncodedKinds
pub mod EncodedModes
pub mod EntryRuns
pub mod ModesRoundTrip
pub mod NameKeys
mod NearZero
mod OctalNumbers
pub mod OneEntry
pub mod TiedBytes
