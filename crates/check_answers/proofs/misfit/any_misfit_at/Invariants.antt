use Rattle.std.proofs.Common.{◌≡◌, drop}
use Rattle.std.specs.Prelude.{◌&&◌}
use Rattle.std.specs.List.{list_any}
use Rattle.sdb_types.specs.Order.{same_key}
use Rattle.sdb_model.specs.Causes.{is_misfit}
use Rattle.check_tables.specs.Values.{all_made}
use Rattle.check_answers.proofs.misfit.any_misfit_at.Given as goal

abbrev pub invariant-loop-rec : goal.invariant-loop-rec
invariant-loop-rec l = list_any (λ x. same_key x.key l.key && is_misfit l.catalog (all_made l.calls) x) (drop l.rec-index l.rows) ≡ list_any (λ x. same_key x.key l.key && is_misfit l.catalog (all_made l.calls) x) l.rows
