pub mod Plans
pub mod SignedBytes
pub mod Signing
pub mod Verifiers
pub mod Verifying
pub mod VerifyingCalls
