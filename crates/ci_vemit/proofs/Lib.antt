pub mod SignLaws
pub mod TemplateValues
pub mod NumberedParts
pub mod TemplateWires
pub mod UnitModules
pub mod UnitValues
mod TokenBytes
mod WrittenPhrases
mod NameLaws
mod SpeltExpressions
mod SpeltModules
pub mod UnitTexts
pub mod TextBounds
mod Rows
pub mod BuildingLaws
mod TemplateRows
