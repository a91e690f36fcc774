-- The laws and theorems of this crate, in reading order.
pub mod Stacking
pub mod Remaining
pub mod Meeting
pub mod Finding
pub mod Named
pub mod Examples
