pub mod ActorLines
mod EncodedActors
mod OffsetBytes
pub mod OwnedActors
pub mod SignatureFields
mod TimeSizes
mod EncodedTimes
