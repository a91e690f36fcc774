-- The laws and theorems of this crate, in reading order.
pub mod Rules
pub mod Lines
pub mod Yields
pub mod Refused
pub mod Texts
pub mod Says
pub mod JudgedBy
