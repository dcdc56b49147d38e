mod ColumnOrder
mod Sought
mod TableLaws
mod OrderLaws
mod CatalogLaws
mod Grown
pub mod Public
