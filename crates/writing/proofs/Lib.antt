-- The laws and theorems of this crate, in reading order.
pub mod Bytes
pub mod Numbers
pub mod Lines
pub mod Examples
pub mod Ended
