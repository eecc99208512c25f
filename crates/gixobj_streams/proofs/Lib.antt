pub mod Appends
pub mod Concatenations
pub mod Errors
