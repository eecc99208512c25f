mod BrokenTrees
pub mod Keeping
mod PathBytes
mod Paths
mod Searching
mod Steps
mod Walks
