-- The laws and theorems of this crate, in reading order.
pub mod Orders
pub mod Gates
pub mod Library
pub mod Circuits
pub mod Linked
pub mod Dictionary
pub mod Examples
