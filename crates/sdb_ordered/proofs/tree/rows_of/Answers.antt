use Rattle.std.proofs.Common.{◌≡◌, ◌++◌, List, ◌∙◌, sym, ap, subst, rules}
use Rattle.std.specs.BTreeMap.Range.{entries_between}
use Rattle.std.specs.declared.ops.Bound.TheVariants.{Included, Unbounded}
use Rattle.std.specs.List.{filter}
use Rattle.std.specs.Map.Iter.{deref_pair}
use Rattle.sdb_types.specs.Order.{key_cmp}
use Rattle.sdb_types.specs.Contents.{rows_among}
use Rattle.sdb_types.specs.declared.key.Key.{Key}
use Rattle.sdb_types.specs.declared.pair.Pair.{Pair}
use Rattle.sdb_ordered.proofs.SpanLemmas.{is_from, rows_from, lies_from, all_found, all_passed, LiesFrom}
use Rattle.sdb_ordered.proofs.tree.rows_of.Goals as goal
use Rattle.sdb_ordered.proofs.tree.rows_of.Goals.{in-None, in-Some+then-not-contains}

pub loop-key-init : goal.loop-key-init
loop-key-init c =
    let span = c.args.span.now in
    let es = c.args.rows.now.entries in
    let iter : c.into_iter-key-iterator.result ≡ filter (λ (e : Key × List Pair). is_from span e.0) es =
    (search rules) ∙ c.range-key-items.ensures.between (search rules) ∙ ap (λ (k : Key). entries_between key_cmp (Included k) Unbounded es) c.in_ok-start.ensures in
    record {
      answered = ap (λ found. found ++ rows_among span c.into_iter-key-iterator.result) c.new-found.ensures ∙ ap (rows_among span) iter ∙ rows_from span es;
      agrees = subst (LiesFrom span) (sym iter) (lies_from span es c.range-key-items.ensures.ordered);
    }

pub returns-clause-rows : goal.returns-clause-rows
returns-clause-rows c =
    let span = c.args.span.now in
    let answered = c.loop-key.invariant.answered in
    elim c.match-next.branch [
      | in-None w ↦ all_found span c.loop-key.found _ c.loop-key.key-iterator w.in-None.ensures.steps.0 answered
      | in-Some+then-not-contains w ↦ all_passed span c.loop-key.found _ c.loop-key.key-iterator (deref_pair (w.in-Some.key, w.in-Some.columns)) c.next.new.self w.in-Some.ensures.steps c.loop-key.invariant.agrees (sym w.if-not-contains.ensures) answered
    ]
