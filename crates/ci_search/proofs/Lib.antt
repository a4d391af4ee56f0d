pub mod BranchLaws
pub mod LogLaws
pub mod SearchLaws
pub mod AnswerLaws
pub mod EnoughLaws
pub mod WaitingLaws
