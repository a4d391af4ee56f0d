pub mod Latencies
pub mod TableRules
pub mod Keys
pub mod Faults
pub mod private
