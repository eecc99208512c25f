pub mod Changes
pub mod Differences
pub mod FileLists
pub mod Histories
pub mod Listings
pub mod Roots
