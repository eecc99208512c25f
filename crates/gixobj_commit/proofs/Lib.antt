mod CommitSigned
mod CommitWrites
mod HeaderSearches
mod HexFields
mod PartSteps
