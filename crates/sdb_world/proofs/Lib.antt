mod Goes
mod Acts
mod Rounds
mod Orders
mod FinalRows
mod Fitting
mod Outcomes
mod Fresh
mod Works
mod Takings
mod Altering
mod Landings
mod ClientSteps
mod Explained
mod Broken
mod Hows
mod Asked
pub mod Public
