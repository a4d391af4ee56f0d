pub mod Counts
pub mod Maps
pub mod MemoryStates
pub mod Outcomes
pub mod Reads
pub mod CallLists
pub mod MadeCalls
pub mod private
