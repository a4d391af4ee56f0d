mod Rows
pub mod HistoryLaws
pub mod FreeLogs
mod SearchDues
mod SearchesDue
mod BlockForms
mod FoldedLeavesFewer
pub mod PresentIsOne
pub mod PresentLaws
mod PresentIsThere
mod BlockSums
pub mod WordIsOne
mod PatchLaws
pub mod NewFileLaws
mod NewImageLaws
pub mod UnitLaws
mod CandidateLaws
pub mod SavingLaws
pub mod TakenUnits
mod SumLaws
mod CandidateGains
pub mod UnitSavings
pub mod TakenSavings
pub mod EntrySums
pub mod SavingBounds
mod DueLaws
mod EnteredPlaces
mod FirstRounds
mod RankLaws
mod DuePlaces
pub mod EachIsPresent
mod EachIsSearched
mod EntryLaws
mod GainBounds
mod RankTies
mod SearchFollowed
mod TakenLaws
mod TakeFollowed
pub mod TruthLaws
mod EntryLists
mod BookOrder
mod BookEntries
mod BookLaws
mod SearchSlots
mod DueBlocks
pub mod AlikeLaws
pub mod OneChoice
mod JudgeLaws
pub mod VerdictLaws
