pub mod Reencoding
