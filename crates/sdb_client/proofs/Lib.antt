mod WrittenRows
mod SeenRows
mod Writable
mod Calls
mod Takings
mod Left
mod Pending
mod Waits
mod Steps
mod Fresh
mod Paths
mod Delayed
pub mod Public
