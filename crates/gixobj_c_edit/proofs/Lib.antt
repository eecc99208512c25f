pub mod EditFiles
pub mod EditRuns
pub mod Emitted
pub mod FrameSteps
pub mod FollowingFrames
pub mod Replied
