pub mod BookReading
pub mod PackedReading
pub mod Packing
pub mod Reading
pub mod Stored
