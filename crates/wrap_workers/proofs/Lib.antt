pub mod Runs
pub mod Weights
pub mod Owing
pub mod Posting
pub mod JobsOut
pub mod RightsApart
