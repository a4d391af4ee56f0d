pub mod StepLaws
pub mod DraftLaws
pub mod FoundLaws
pub mod FusionLaws
pub mod NameLaws
pub mod PlanLaws
