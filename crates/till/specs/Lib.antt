pub mod Opening
pub mod Requests
pub mod Replies
pub mod Answers
