pub mod Steps
pub mod Drafts
pub mod Factors
pub mod Fusions
pub mod Names
pub mod Operators
pub mod Plans
