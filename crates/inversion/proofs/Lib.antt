-- The laws and theorems of this crate, in reading order.
pub mod Inverted
pub mod Handed
pub mod One
pub mod Examples
pub mod Reducing
pub mod Demands
pub mod Lists
pub mod Twice
pub mod Keepless
