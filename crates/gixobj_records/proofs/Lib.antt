mod Faults
mod Fields
mod Headers
pub mod RecordLists
