pub mod Calls
pub mod Fields
pub mod GpgReports
pub mod Outcomes
pub mod Pieces
pub mod SshReports
pub mod StatusLines
pub mod Trust
