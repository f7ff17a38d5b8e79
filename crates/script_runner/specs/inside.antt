pub mod Heading
pub mod Counting
pub mod Carets
