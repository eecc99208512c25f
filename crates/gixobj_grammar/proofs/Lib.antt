pub mod CommitsRead
pub mod EntireCommits
mod LineErrors
pub mod LinesYielded
pub mod OneLine
pub mod ParentHexes
mod Searching
mod SkippedLines
pub mod TagBodies
pub mod TagLines
mod TagPrefixes
mod TaggerTokens
