pub mod CellChanges
pub mod BoundedMap
pub mod Lending
pub mod Ownership
pub mod Trees
pub mod private
