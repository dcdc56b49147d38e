use Rattle.std.proofs.Common.{◌≡◌, None, take}
use Rattle.std.specs.Prelude.{find, not}
use Rattle.std.specs.List.{filter_map}
use Rattle.sdb_contents.specs.Decided.{decided}
use Rattle.sdb_contents.specs.Dumped.{image_by, is_well_formed}
use Rattle.sdb_contents.proofs.rows.rows_of.Given as goal

abbrev pub invariant-loop-rec : goal.invariant-loop-rec
invariant-loop-rec l = record {
  rows : l.rows ≡ filter_map (image_by (decided l.decisions)) (take l.rec-index l.records);
  well_formed : find (λ r. not (is_well_formed (decided l.decisions) l.table r)) (take l.rec-index l.records) ≡ None;
}
