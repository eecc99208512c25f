pub mod CleanCommits
pub mod CleanTags
pub mod DecodedTags
pub mod Reported
pub mod Unreported
