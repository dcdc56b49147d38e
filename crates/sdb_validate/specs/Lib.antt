pub mod Types
pub mod Merge
pub mod WishCode
pub mod Inside
pub mod Rescan
