pub mod Canonical
pub mod Imports
pub mod Mirrors
pub mod Outcomes
pub mod Runs
