pub mod Chosen
pub mod Marks
pub mod Queue
pub mod Readings
pub mod Settled
pub mod Spreading
