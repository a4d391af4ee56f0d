pub mod Answered
pub mod private
