pub mod Counts
pub mod Listed
pub mod Progress
pub mod Queues
