pub mod Difference
pub mod Machine
pub mod Named
pub mod Newest
pub mod Numbers
pub mod Search
pub mod WalkErrors
