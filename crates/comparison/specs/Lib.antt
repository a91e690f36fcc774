-- The definitions of this crate, in reading order.
pub mod Compare
pub mod Demands
pub mod Examples
