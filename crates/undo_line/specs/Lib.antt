-- What the crate promises
pub mod Inverse
pub mod UndoParts
pub mod TextLines
