mod CleanObjects
pub mod CommitLists
pub mod Lists
pub mod Parsed
pub mod Rests
pub mod Serious
pub mod Steps
pub mod TagLists
pub mod Unique
pub mod UniqueCommits
pub mod UniqueTags
