pub mod Headers
pub mod Records
