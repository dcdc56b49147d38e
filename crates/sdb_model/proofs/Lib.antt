mod RealTime
mod Basics
mod Catalogs
mod Requests
mod Doubled
mod Pieces
pub mod Public
