pub mod Types
pub mod Plans
pub mod Misfits
pub mod Asked
pub mod Risen
pub mod Beside
