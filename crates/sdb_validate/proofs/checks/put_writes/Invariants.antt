use Rattle.std.proofs.Common.{◌≡◌}
use Rattle.std.specs.BTreeMap.{is_at, get}
use Rattle.std.specs.FinMap as fin
use Rattle.std.specs.Map.{lookup}
use Rattle.sdb_types.specs.declared.key.Key.{Key}
use Rattle.sdb_types.specs.Contents.{in_span}
use Rattle.sdb_types.specs.Order.{key_cmp}
use Rattle.sdb_ordered.proofs.Public.{LiesFrom}
use Rattle.sdb_validate.specs.Rescan.{expected_of_written}
use Rattle.sdb_validate.proofs.checks.put_writes.Given as goal

abbrev pub invariant-loop-key : goal.invariant-loop-key
invariant-loop-key l = record {
  wished : (q : Key) → expected_of_written (in_span l.span q) (lookup (is_at (key_cmp q)) l.key-iterator) (fin.get l.wishes q) ≡ expected_of_written (in_span l.span q) (get key_cmp l.bases q) (fin.get l.initial.wishes q);
  agrees : LiesFrom l.span l.key-iterator;
}
