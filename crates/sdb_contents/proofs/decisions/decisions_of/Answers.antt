use Rattle.std.proofs.Common.{◌≡◌, ◌∙◌, ◌++◌, true, false, List, take, sym, ap, subst}
use Rattle.std.specs.Prelude.{find, not}
use Rattle.sdb_contents.specs.Types.{Key, Record, TxId}
use Rattle.sdb_types.specs.Contents.{rise}
use Rattle.sdb_contents.specs.Decided.{decided, decision_among, is_decided, recorded_among, recorded_by}
use Rattle.sdb_contents.proofs.Coordinated.{decided_more, is_decided_by, recorded_more, rise_take}
use Rattle.sdb_contents.proofs.DumpLists.{none_more}
use Rattle.sdb_contents.proofs.Refusals.{first_is, item_at, item_more, passed, refused_as}
use Rattle.sdb_contents.proofs.decisions.decisions_of.Goals as goal

pub loop-row-preserved : goal.loop-row-preserved
loop-row-preserved c =
    let before = c.loop-row.invariant in
    let rows = c.args.rows.now in
    let i = c.loop-row.row-index in
    let row = c.row-item.result in
    let next = item_more rows i row c.loop-row-test.true c.row-item.is in
    let of = c.in_ok-id.ensures.id in
    let says = c.in_ok-id.ensures.decided in
    record {
      decided = λ up id small.
          decided_more (decided c.loop-row.decisions) (decided c.add.new.self) (take i rows) row c.in_ok-id.id c.in_ok-id.decided (subst (λ (rs : List Record). rise rs ≡ true) next (rise_take _ rows up)) of says c.in_ok-add.ensures.decided (before.decided up) id small
          ∙ ap (λ (rs : List Record). decision_among rs id) (sym next);
      recorded = c.in_ok-add.ensures.recorded ∙ ap (λ (ids : List TxId). ids ++ recorded_by c.in_ok-id.id c.in_ok-id.decided.decision) before.recorded
          ∙ sym (ap recorded_among next ∙ recorded_more (take i rows) row c.in_ok-id.id c.in_ok-id.decided of says);
      valid = ap (find (λ (r : Record). not (is_decided r))) next ∙ none_more (λ (r : Record). not (is_decided r)) (take i rows) row before.valid (ap not (is_decided_by row c.in_ok-id.decided says));
    }

pub returns-in_err-id-clause-err : goal.returns-in_err-id-clause-err
returns-in_err-id-clause-err c =
    let rows = c.args.rows.now in
    let i = c.loop-row.row-index in
    let row = c.row-item.result in
    passed _ c.from_residual.result c.in_err-id.field-0.0 c.from_residual.ensures.1
    (refused_as (λ (key : Key). (key ≡ row.key) × (is_decided row ≡ false)) _ ⊥ ⊥ c.in_err-id.field-0.0
    (λ key bad. first_is is_decided rows i row key (item_at rows i row c.loop-row-test.true c.row-item.is) c.loop-row.invariant.valid bad) (λ h. h) c.in_err-id.ensures.err)
