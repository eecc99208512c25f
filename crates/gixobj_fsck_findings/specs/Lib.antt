pub mod Checks
pub mod CommitChecks
pub mod LineChecks
pub mod Parser
pub mod TagChecks
