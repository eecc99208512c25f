pub mod BinarySearch
pub mod Joined
pub mod Keys
pub mod OnePiece
pub mod FlatIndices
pub mod Neighbours
pub mod PrefixLengths
pub mod Sublists
