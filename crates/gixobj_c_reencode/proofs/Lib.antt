pub mod Reencoded
