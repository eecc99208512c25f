pub mod Bits
pub mod First
pub mod Numbers
pub mod Worst
