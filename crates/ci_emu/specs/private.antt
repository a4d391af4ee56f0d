pub mod Fetched
pub mod Actions
pub mod PlacedRanges
pub mod Lines
pub mod Counting
pub mod CountedSteps
