-- The laws and theorems of this crate, in reading order.
pub mod Printed
pub mod Lines
pub mod Places
pub mod Steps
pub mod Kept
pub mod Slips
pub mod Examples
