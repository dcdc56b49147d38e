mod TreeLemmas
mod SpanLemmas
mod Writes
pub mod Public
