pub mod Fitting
pub mod Reported
pub mod RunsSoFar
pub mod WiderRelations
