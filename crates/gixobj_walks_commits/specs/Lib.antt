pub mod Nodes
pub mod Seconds
pub mod Tags
