mod Fixed
mod Gathered
mod Sorting
mod Places
mod Sought
mod Repeats
mod Risen
mod Narrow
mod Laid
mod Local
mod Whole
mod InOrder
mod Fits
mod Misfits
mod Firsts
mod Beside
mod Sieved
pub mod Public
