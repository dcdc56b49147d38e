pub mod Types
pub mod Draws
pub mod Setup
pub mod Script
pub mod Counts
