pub mod NumberLaws
pub mod RowLaws
mod MemberLaws
