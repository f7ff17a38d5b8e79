pub mod Reading
pub mod Left
pub mod Opening
pub mod Named
pub mod Calls
