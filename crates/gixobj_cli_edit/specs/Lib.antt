pub mod Digests
pub mod Edits
pub mod Engine
pub mod Faults
pub mod Reporting
pub mod Arguments
