pub mod Going
pub mod Outs
pub mod Newest
pub mod Owners
pub mod Steps
pub mod Begun
pub mod Rounds
