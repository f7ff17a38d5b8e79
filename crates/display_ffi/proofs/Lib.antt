pub mod Lent
pub mod Statuses
pub mod Values
