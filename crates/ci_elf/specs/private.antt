pub mod LoadedPlaces
pub mod Checks
pub mod Parts
pub mod SectionChecks
pub mod RangeChecks
pub mod SymbolChecks
