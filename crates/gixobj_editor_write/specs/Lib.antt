pub mod Calls
pub mod Frames
pub mod Moves
pub mod TakenTrees
pub mod WriteErrors
