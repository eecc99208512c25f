pub mod Edits
pub mod Failures
pub mod Frames
pub mod Lossy
pub mod Replies
pub mod Roots
