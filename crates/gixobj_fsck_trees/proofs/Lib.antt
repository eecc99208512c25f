pub mod FirstOffsets
mod NamesAscend
mod NamesSeen
mod NearBytes
mod OctalNumbers
mod PlainNames
mod RawEntryParts
pub mod TreeLoops
pub mod TreeReads
pub mod UniqueReads
