pub mod SetLaws
pub mod WordLaws
pub mod Words
