mod Accepted
mod AssembledBlocks
mod AssembledTitles
pub mod Assembling
mod Audited
pub mod CarriageReturns
mod Descriptions
mod Errors
mod LastTrailers
pub mod Renaming
mod Yielded
