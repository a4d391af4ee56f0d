pub mod Scanned
pub mod Tables
pub mod Led
pub mod Checked
pub mod Names
pub mod Scanning
pub mod Building
