mod Keys
mod Fronts
mod Orders
mod Places
mod Scans
mod SpanPlaces
mod Opening
mod SeenRows
mod Differences
mod Owned
mod Forgotten
mod Firsts
mod Kept
mod Among
mod Filled
pub mod Public
