pub mod Templates
pub mod Laws
pub mod Texts
