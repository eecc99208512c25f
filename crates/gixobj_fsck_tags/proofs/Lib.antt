pub mod CleanTags
pub mod TagMessages
pub mod TagOutcomes
