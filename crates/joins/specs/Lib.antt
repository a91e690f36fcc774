-- The definitions of this crate, in reading order.
pub mod Join
pub mod Demands
pub mod Examples
