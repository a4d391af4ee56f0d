pub mod Books
pub mod Faults
pub mod Packed
pub mod RegionTrees
pub mod Trees
pub mod private
