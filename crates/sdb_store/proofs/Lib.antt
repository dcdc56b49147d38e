mod Lawful
mod Counts
mod Batches
pub mod Public
