mod Texts
mod Loops
mod FieldLaws
mod ItemLaws
mod RecordLaws
mod PlaceLaws
pub mod Public
