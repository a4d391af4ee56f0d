pub mod Effects
pub mod RegisterSets
pub mod FieldBounds
pub mod Fields
pub mod Laws
pub mod Sequences
pub mod Table
pub mod private
