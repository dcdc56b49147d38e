mod Lists
mod StateLaws
mod ObservedLaws
mod SettledLaws
mod Requests
mod PutLaws
mod LateLaws
mod PlanLaws
mod TakeLaws
mod CallLaws
mod KnownLaws
mod RollLaws
mod WholeLaw
pub mod Public
