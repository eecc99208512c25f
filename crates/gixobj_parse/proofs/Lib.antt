pub mod HeaderFields
pub mod MarkerPlaces
mod MarkersFound
mod Prefixes
pub mod Readers
