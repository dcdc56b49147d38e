use Rattle.std.proofs.Common.{◌≡◌, ◌++◌, ℕ, ◌∙◌, sym, ap, subst, rules}
use Rattle.std.specs.BTreeMap.Range.{entries_between}
use Rattle.std.specs.declared.ops.Bound.TheVariants.{Included, Unbounded}
use Rattle.std.specs.List.{filter}
use Rattle.std.specs.Map.Iter.{deref_pair}
use Rattle.sdb_types.specs.Order.{key_cmp}
use Rattle.sdb_types.specs.declared.key.Key.{Key}
use Rattle.sdb_ordered.proofs.Public.{is_from, lies_from, LiesFrom}
use Rattle.sdb_snapshot.specs.Places.{keys_among}
use Rattle.sdb_snapshot.proofs.Among.{keys_from, all_found, all_passed}
use Rattle.sdb_snapshot.proofs.key_map.keys_among.Goals as goal
use Rattle.sdb_snapshot.proofs.key_map.keys_among.Goals.{in-None, in-Some+then-not-contains}

pub loop-key-init : goal.loop-key-init
loop-key-init c =
    let span = c.args.span.now in
    let es = c.args.places.now.entries in
    let iter : c.into_iter-key-iterator.result ≡ filter (λ (e : Key × ℕ). is_from span e.0) es =
    (search rules) ∙ c.range-key-items.ensures.between (search rules) ∙ ap (λ (k : Key). entries_between key_cmp (Included k) Unbounded es) c.in_ok-start.ensures in
    record {
      answered = ap (λ found. found ++ keys_among span c.into_iter-key-iterator.result) c.new-found.ensures ∙ ap (keys_among span) iter ∙ keys_from span es;
      agrees = subst (LiesFrom span) (sym iter) (lies_from span es c.range-key-items.ensures.ordered);
    }

pub returns-clause-keys : goal.returns-clause-keys
returns-clause-keys c =
    let span = c.args.span.now in
    let answered = c.loop-key.invariant.answered in
    elim c.match-next.branch [
      | in-None w ↦ all_found span c.loop-key.found _ c.loop-key.key-iterator w.in-None.ensures.steps.0 answered
      | in-Some+then-not-contains w ↦ all_passed span c.loop-key.found _ c.loop-key.key-iterator (deref_pair (w.in-Some.key, w.in-Some._place)) c.next.new.self w.in-Some.ensures.steps c.loop-key.invariant.agrees (sym w.if-not-contains.ensures) answered
    ]
