-- The laws of this crate, in reading order.
pub mod Lines
pub mod Heads
