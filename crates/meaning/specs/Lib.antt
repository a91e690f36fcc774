-- The definitions of this crate, in reading order.
pub mod Amplitude
pub mod Pattern
pub mod State
