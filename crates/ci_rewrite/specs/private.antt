pub mod Follows
pub mod Bundles
