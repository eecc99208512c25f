pub mod DotFiles
pub mod DotGit
pub mod Hfs
pub mod Letters
pub mod Ntfs
pub mod Utf8
pub mod Walks
