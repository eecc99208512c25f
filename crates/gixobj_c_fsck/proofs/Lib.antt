pub mod Verdicts
mod Written
