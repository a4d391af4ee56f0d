pub mod VectorLaws
pub mod WireLaws
pub mod WidthLaws
pub mod ExpressionLaws
pub mod ValueLaws
pub mod ScopeLaws
pub mod EvaluationLaws
mod Rows
