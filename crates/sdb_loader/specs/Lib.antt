pub mod Words
pub mod Fields
pub mod Described
pub mod NamedData
pub mod Directed
