pub mod Modules
pub mod Values
pub mod Laws
pub mod NameEquality
pub mod ItemEquality
pub mod WireEquality
pub mod ModuleEquality
pub mod private
