mod Firsts
mod Merges
mod Ordered
mod Paired
mod Ranges
mod Rescans
mod Trees
mod Unwritten
mod Places
pub mod Public
