pub mod RangeLaws
pub mod CustomLaws
pub mod MarkLaws
pub mod ListingLaws
pub mod InsnLaws
pub mod SourceLaws
pub mod LoadingLaws
pub mod LeaderLaws
pub mod OneListing
pub mod BlockLaws
pub mod BlockSums
pub mod BlockWords
pub mod PatchLaws
pub mod OneBlock
pub mod WayLaws
mod Rows
