-- The laws and theorems of this crate, in reading order.
pub mod SpareLists
pub mod Circuits
pub mod Writing
pub mod Inverting
pub mod Halves
pub mod Few
pub mod Signed
