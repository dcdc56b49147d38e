mod AllRead
mod Lists
mod Lenient
mod Numbers
mod FieldsAgain
mod NamesAgain
mod RowsAgain
mod TextAgain
mod Texts
pub mod Public
