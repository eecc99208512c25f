pub mod Contents
pub mod OneOrTwoItems
mod Errors
