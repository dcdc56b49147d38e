-- The lemmas of this crate that others cite.
pub use Rattle.law_runs.proofs.Alters.{is_altered}
pub use Rattle.law_runs.proofs.Beginnings.{invariant_on_one, no_coordinator}
pub use Rattle.law_runs.proofs.Ended.{decides, invariant_is_run_on_stores, starts_empty}
pub use Rattle.law_runs.proofs.Explains.{invariant_explains_flights, invariant_is_accepted, invariant_is_explained}
pub use Rattle.law_runs.proofs.Finding.{answers_as, answers_committed}
pub use Rattle.law_runs.proofs.Kept.{by_nat}
pub use Rattle.law_runs.proofs.Flights.{delayed_about, in_flight_is}
pub use Rattle.law_runs.proofs.Moments.{lone_effect}
pub use Rattle.law_runs.proofs.OnStores.{points_on_stores, sound_on_stores}
pub use Rattle.law_runs.proofs.Ordered.{is_order, risen_fits}
pub use Rattle.law_runs.proofs.PlainRuns.{run_plain}
pub use Rattle.law_runs.proofs.Steps.{execution_caused, execution_linked, led, step_world, world_first}
