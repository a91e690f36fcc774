-- The laws and theorems of this crate, in reading order.
pub mod PlainJoin
pub mod One
pub mod Handed
pub mod Demands
pub mod Lists
pub mod Undone
pub mod Keepless
pub mod Examples
