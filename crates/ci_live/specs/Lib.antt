pub mod Sets
pub mod Liveness
pub mod Analyses
pub mod Laws
pub mod private
