pub mod UnitResults
