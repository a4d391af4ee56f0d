pub mod Arcs
pub mod BlockGraph
pub mod BundleArcs
pub mod Bundles
pub mod Hazards
