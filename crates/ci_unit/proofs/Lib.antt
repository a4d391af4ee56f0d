pub mod CountLaws
pub mod InputLaws
pub mod ReadingLaws
mod Rows
pub mod SourceLaws
pub mod TableLaws
pub mod UnitLaws
pub mod UseLaws
pub mod ValueLaws
