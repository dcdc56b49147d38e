mod Order
mod Names
mod Values
mod WordLaws
pub mod Public
