-- The laws and theorems of this crate, in reading order.
pub mod Digits
pub mod Stores
pub mod Sets
