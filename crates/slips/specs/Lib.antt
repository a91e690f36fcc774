-- The definitions of this crate, in reading order.
pub mod Slip
pub mod Demands
pub mod Examples
