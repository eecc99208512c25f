pub mod Buffers
pub mod Codes
