pub mod OutJobs
