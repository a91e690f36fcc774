-- The definitions of this crate, in reading order.
pub mod SlipText
pub mod Demands
pub mod Seen
pub mod Loaded
