use Rattle.std.proofs.Common.{◌≡◌, drop}
use Rattle.std.specs.List.{list_any}
use Rattle.std.specs.Prelude.{◌&&◌}
use Rattle.sdb_model.specs.Counted.{is_key_of}
use Rattle.sdb_model.specs.Transactions.{prepares}
use Rattle.check_tables.specs.Values.{made_of}
use Rattle.check_answers.proofs.counts.is_prepared.Given as goal

abbrev pub invariant-loop-made : goal.invariant-loop-made
invariant-loop-made l = list_any (λ m. prepares l.id m.request && is_key_of l.key (made_of m)) (drop l.made-index l.calls) ≡ list_any (λ m. prepares l.id m.request && is_key_of l.key (made_of m)) l.calls
