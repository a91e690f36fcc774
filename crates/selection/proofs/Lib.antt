-- The laws and theorems of this crate, in reading order.
pub mod Fronts
pub mod Selection
pub mod Places
pub mod Counting
pub mod Opening
pub mod Noting
pub mod Running
pub mod Turn
pub mod Ordering
pub mod Examples
