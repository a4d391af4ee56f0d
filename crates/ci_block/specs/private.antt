pub mod Marking
pub mod Marks
pub mod Sources
pub mod Loading
pub mod Listing
pub mod CustomSearch
pub mod Stretches
