pub mod Codes
pub mod Findings
pub mod Messages
pub mod Reports
