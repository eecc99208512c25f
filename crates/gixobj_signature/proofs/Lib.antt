mod Rows
pub mod Steps
mod Unmarked
