pub mod Cycles
pub mod Paths
