pub mod Types
pub mod Values
pub mod Started
pub mod Observed
pub mod Rules
pub mod Next
