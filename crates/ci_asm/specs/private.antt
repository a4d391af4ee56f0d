pub mod Tokens
pub mod Shapes
pub mod Statements
pub mod LabelMap
pub mod Programs
