mod HexLaws
pub mod AddressReading
pub mod BrokenLaws
pub mod ByteLaws
pub mod DigitLaws
pub mod Exact
pub mod FirstBad
pub mod Languages
pub mod NumberReading
pub mod Readers
pub mod Repetitions
pub mod WordReading
pub mod TokenLaws
