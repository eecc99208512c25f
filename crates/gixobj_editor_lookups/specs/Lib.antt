pub mod EditNames
pub mod FailedOpenings
pub mod LookedUp
pub mod Openings
pub mod RemovalErrors
pub mod UpsertErrors
