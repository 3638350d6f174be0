pub mod Bytes
pub mod Counted
pub mod Back
