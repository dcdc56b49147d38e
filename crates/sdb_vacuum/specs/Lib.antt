pub mod Types
pub mod Vacuum
pub mod Rows
pub mod Inside
pub mod Calls
pub mod Valid
pub mod Ends
pub mod Run
