mod NodeSets
mod Fields
