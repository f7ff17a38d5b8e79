pub mod Histories
pub mod Keeping
pub mod Sent
pub mod Teams
