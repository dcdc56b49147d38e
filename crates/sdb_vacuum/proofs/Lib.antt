mod Firm
mod Formed
mod WellFormed
mod Counts
mod Spans
mod Ends
pub mod Public
