-- The laws and theorems of this crate, in reading order.
pub mod Steps
pub mod Slips
pub mod Examples
pub mod Removed
pub mod Tests
pub mod OnCodes
pub mod Running
