pub mod Types
pub mod Step
pub mod Ran
pub mod Explained
pub mod Broken
pub mod Asked
