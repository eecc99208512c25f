mod Appends
mod FaultOffsets
mod FindingSets
mod TreeSets
mod UniqueFindings
