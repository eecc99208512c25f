mod BinarySearch
pub mod DecidableTrees
pub mod TreeWrites
mod Viewed
pub mod WellFormed
mod WrittenTrees
