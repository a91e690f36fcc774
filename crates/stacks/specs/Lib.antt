-- The definitions of this crate, in reading order.
pub mod Remaining
pub mod Stacks
pub mod Holding
pub mod Found
