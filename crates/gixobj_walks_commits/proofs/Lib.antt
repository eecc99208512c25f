pub mod CommitNodes
pub mod Lookups
pub mod Nodes
pub mod Numbers
pub mod Tags
