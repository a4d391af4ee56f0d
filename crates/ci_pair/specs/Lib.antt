pub mod Pairs
pub mod Prefixes
pub mod Trees
pub mod RegionTrees
pub mod Rules
pub mod PairSets
pub mod Answered
pub mod private
