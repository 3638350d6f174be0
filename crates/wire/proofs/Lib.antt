pub mod Cases
pub mod Writing
pub mod Back
pub mod Fronts
pub mod Answering
