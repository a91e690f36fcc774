-- The definitions of this crate, in reading order.
pub mod Invert
pub mod Demands
pub mod Examples
