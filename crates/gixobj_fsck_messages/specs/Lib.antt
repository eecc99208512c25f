pub mod Iterators
pub mod Messages
pub mod Options
pub mod Sets
pub mod Severities
