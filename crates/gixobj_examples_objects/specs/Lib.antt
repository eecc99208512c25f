pub mod AcceptedSignatures
pub mod Assembled
pub mod Copies
pub mod CopiesById
pub mod Signers
pub mod Yielded
