-- The laws and theorems of this crate, in reading order.
pub mod Steps
