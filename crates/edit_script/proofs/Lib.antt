mod Extending
mod Forms
mod Lines
mod RowLines
mod Writing
pub mod Scripts
pub mod Verdicts
