pub mod OtherRegisters
pub mod Renaming
pub mod Steps
pub mod InStep
pub mod Laws
pub mod FewerArcs
pub mod RenamedFiles
pub mod private
