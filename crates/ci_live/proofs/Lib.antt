pub mod SetLaws
pub mod ReachLaws
pub mod LivenessLaws
pub mod NumberedBlocks
pub mod TransferLaws
pub mod SearchLaws
pub mod VisitLaws
pub mod EffectLaws
pub mod PushLaws
pub mod LiveLaws
pub mod NeededLaws
pub mod OneAnalysis
pub mod LeadLaws
pub mod RegisterLaws
mod Rows
