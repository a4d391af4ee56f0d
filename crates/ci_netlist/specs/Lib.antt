pub mod Netlists
pub mod Texts
pub mod Faults
pub mod Laws
pub mod private
