-- The definitions of this crate, in reading order.
pub mod Refusals
pub mod Text
pub mod Reading
pub mod Heads
pub mod Judging
