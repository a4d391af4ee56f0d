pub mod Settled
pub mod Reading
