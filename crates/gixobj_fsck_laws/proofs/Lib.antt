mod CanonicalDigits
mod CleanEntries
mod CleanOrder
mod CleanTrees
