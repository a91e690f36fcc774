-- The definitions of this crate, in reading order.
pub mod Slip
pub mod Stepped
