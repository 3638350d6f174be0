pub mod Calls
pub mod Answers
pub mod Meant
pub mod Reads
pub mod Back
