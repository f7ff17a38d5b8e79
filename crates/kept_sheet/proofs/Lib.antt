pub mod PlainSheets
pub mod Waits
