mod CatalogRead
mod Placing
mod Playable
mod BenchPlayable
mod Headline
mod Following
mod Schemas
mod Sessions
mod Loads
mod Retiring
mod Alters
mod Keeping
mod Promising
mod WhereKnown
mod Writing
pub mod Public
