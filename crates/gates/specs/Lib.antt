-- The definitions of this crate, in reading order.
pub mod Every
pub mod Circuit
pub mod Order
pub mod Reduced
pub mod Sites
pub mod Inverse
pub mod Code
pub mod Whether
