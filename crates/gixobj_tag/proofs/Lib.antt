pub mod Bodies
pub mod Names
pub mod PlainNames
mod TagSigned
pub mod TagWrites
pub mod EntireTags
pub mod Recognized
mod Reencoded
