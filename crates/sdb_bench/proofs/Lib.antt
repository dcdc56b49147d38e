mod Spelled
mod Drawing
mod AcceptedTexts
mod Fixed
mod Even
mod Evenness
mod ReadAs
mod Bodied
mod Playable
mod Serial
mod Lines
pub mod Public
