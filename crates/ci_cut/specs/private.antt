pub mod Stored
pub mod SourceSets
pub mod ChainDelays
pub mod Tried
pub mod Reached
pub mod AddedRows
