-- The definitions of this crate, in reading order.
pub mod Demands
pub mod Quoting
pub mod Examples
