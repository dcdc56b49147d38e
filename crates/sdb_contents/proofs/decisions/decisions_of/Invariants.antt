use Rattle.std.proofs.Common.{◌≡◌, ◌<◌, ◌^◌, true, None, take}
use Rattle.std.specs.Prelude.{find, not}
use Rattle.sdb_types.specs.declared.txid.TxId.{TxId}
use Rattle.sdb_types.specs.Contents.{rise}
use Rattle.sdb_contents.specs.Decided.{decided, decision_among, is_decided, recorded_among}
use Rattle.sdb_contents.proofs.decisions.decisions_of.Given as goal

abbrev pub invariant-loop-row : goal.invariant-loop-row
invariant-loop-row l = record {
  decided : rise l.rows ≡ true → (id : TxId) → id.0 < 2 ^ 128 → decided l.decisions id ≡ decision_among (take l.row-index l.rows) id;
  recorded : l.decisions.recorded ≡ recorded_among (take l.row-index l.rows);
  valid : find (λ r. not (is_decided r)) (take l.row-index l.rows) ≡ None;
}
