pub mod Types
pub mod Client
pub mod Inside
pub mod Step
pub mod Execution
