pub mod ExtendedReadings
