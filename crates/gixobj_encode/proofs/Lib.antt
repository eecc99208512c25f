pub mod FieldWrites
mod FoldedSizes
pub mod HeadersRoundTrip
mod StreamReads
