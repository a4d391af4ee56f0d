pub mod StoredSets
pub mod Flows
pub mod Found
