pub mod BookReading
pub mod CutReading
pub mod DueTrees
pub mod Ends
pub mod EntryReading
pub mod LogReading
pub mod Loops
pub mod OneFault
pub mod RegionTreeLaws
pub mod PackedHalves
pub mod PackedLoops
pub mod PackedReading
pub mod PackedSteps
pub mod PackingLaws
mod Rows
pub mod TreeReading
