pub mod Types
pub mod Gathered
pub mod Put
pub mod Bucket
