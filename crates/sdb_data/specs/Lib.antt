pub mod Records
pub mod Fields
pub mod Tables
pub mod Printed
pub mod Lenient
