pub mod Engine
pub mod Input
pub mod Failure
pub mod Show
pub mod Arguments
