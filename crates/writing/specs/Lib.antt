-- The definitions of this crate, in reading order.
pub mod Written
pub mod Decimal
