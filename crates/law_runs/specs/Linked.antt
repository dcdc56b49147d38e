-- The invariant between the events of a run and its clients.
pub use Rattle.law_runs.specs.World.{HaveCauses, IsLinked, on_one, one_name}
