mod RowSteps
mod Walks
mod Filters
pub mod Public
