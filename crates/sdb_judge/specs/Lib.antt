pub mod Input
pub mod Judged
