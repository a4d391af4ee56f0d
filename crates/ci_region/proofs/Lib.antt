pub mod CellLaws
pub mod MapLaws
mod Memory
mod Sharing
pub mod TreeLaws
pub mod TreeRows
pub mod ValueLaws
