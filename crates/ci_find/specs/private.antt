pub mod Unprofiled
pub mod Chosen
pub mod Judged
pub mod Pieces
pub mod Renamed
