mod Contents
pub mod SplitsAtEach
pub mod Digits
mod EmptyObjects
mod HeaderErrors
pub mod Headers
pub mod HexCase
mod HexDigits
pub mod HexIds
pub mod Runs
mod HexSteps
mod HexTests
pub mod EncodedHex
pub mod SameIds
pub mod DecodedSizes
pub mod Splits
