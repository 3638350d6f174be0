pub mod Numbers
pub mod Counting
pub mod Writing
pub mod Typed
