mod Begins
mod Ends
mod Inserts
pub mod Lines
pub mod Listings
mod Members
mod Named
pub mod Names
pub mod NewestFirst
mod Progress
mod Ready
mod States
pub mod Unique
