mod StateLaws
mod PushLaws
pub mod OperationLaws
pub mod InstructionLaws
pub mod ProgramLaws
pub mod RunLaws
