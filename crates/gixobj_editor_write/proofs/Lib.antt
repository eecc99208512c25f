pub mod BegunFrames
pub mod Emitting
pub mod EntryWalks
pub mod Moves
pub mod StorablePairs
pub mod TakenTrees
pub mod WaitingFrames
pub mod WrittenEntries
