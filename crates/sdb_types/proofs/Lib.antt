mod Basics
mod Bools
mod KeyOrder
mod Keys
mod ColumnLemmas
mod TxIdLemmas
mod Pieces
mod Batches
mod Replies
mod ColumnMap
mod Words
mod Prefixes
mod SpanRows
pub mod Public
