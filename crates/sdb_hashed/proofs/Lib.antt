mod Inside
mod Changes
mod Gather
mod Calls
mod Spans
mod Sorting
mod Parting
