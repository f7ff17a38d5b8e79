pub mod Records
pub mod Tellings
pub mod ToldMaps
pub mod StepSums
pub mod MetEntries
pub mod ShownEntries
pub mod ShownSteps
pub mod LaidSteps
