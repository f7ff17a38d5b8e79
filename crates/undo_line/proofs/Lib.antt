pub mod CleanLengths
pub mod Operations
pub mod RoundTrips
pub mod Inverses
pub mod RunningInverses
