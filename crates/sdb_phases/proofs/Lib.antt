mod RecoverRows
mod DecideRows
mod CommitInvariants
mod Derived
mod Groups
mod Refusals
mod Formed
mod RecoverInvariants
mod RecoverAnswers
mod Starved
mod DecidingPut
mod Rows
mod RecoverCalls
pub mod Public
