-- The laws and theorems of this crate, in reading order.
pub mod Handed
pub mod One
pub mod Demands
pub mod Order
pub mod JudgedBy
pub mod Examples
