pub mod ChoiceLaws
pub mod Acceptance
pub mod TreeWalk
pub mod OneTree
pub mod WalkedLaws
