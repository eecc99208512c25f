pub mod Bases
pub mod Graph
pub mod Listing
pub mod Numbered
pub mod Walks
