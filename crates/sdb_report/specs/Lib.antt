pub mod Types
pub mod Reading
pub mod Reports
pub mod FieldReading
pub mod Lines
pub mod OneLine
