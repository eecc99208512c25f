pub mod BaseEnds
mod CommitNumbers
mod Differences
mod IdOrder
mod KnownIds
mod LargerGraphs
mod Machines
mod GivenCommits
pub mod NamedBases
pub mod NamedEnds
mod NamedLists
mod NamedWalks
mod NewestLists
mod Searches
mod Starts
pub mod NamedPaths
pub mod WalkEnds
mod WalkLists
