pub mod CleanTrees
