use Rattle.std.proofs.Common.{◌≡◌, take, map}
use Rattle.std.specs.Prelude.{filter}
use Rattle.sdb_contents.specs.Moving.{is_moving}
use Rattle.sdb_contents.proofs.moving.moving_tables.Given as goal

abbrev pub invariant-loop-entry : goal.invariant-loop-entry
invariant-loop-entry l = l.tables ≡ map (λ e. e.table.name) (filter (λ e. is_moving l.from l.entries e.table.name.ns) (take l.entry-index l.entries))
