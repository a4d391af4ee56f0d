pub mod Counts
mod Told
mod FormLaws
pub mod InputLaws
pub mod OneRefusal
pub mod Writes
pub mod Contents
pub mod CallsMade
pub mod OverFiles
