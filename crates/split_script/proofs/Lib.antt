pub mod Lines
pub mod Mets
pub mod Before
