-- The laws and theorems of this crate, in reading order.
pub mod Checking
pub mod One
pub mod Handed
pub mod Demands
pub mod Leading
pub mod Examples
