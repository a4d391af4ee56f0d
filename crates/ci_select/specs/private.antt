pub mod Followed
pub mod Judged
