pub mod CallCodes
pub mod Noted
