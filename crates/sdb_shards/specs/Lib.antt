pub mod Boxes
pub mod Homes
pub mod Moves
pub mod Whole
pub mod Moved
pub mod PartCode
