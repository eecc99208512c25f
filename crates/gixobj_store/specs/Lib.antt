pub mod Checksums
pub mod EntrySteps
pub mod Lookups
pub mod Stores
pub mod TreeReaders
