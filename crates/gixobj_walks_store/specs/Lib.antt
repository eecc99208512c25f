pub mod Errors
pub mod ListErrors
pub mod Peeled
pub mod Reached
