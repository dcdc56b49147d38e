use Rattle.std.proofs.Common.{◌≡◌, ◌∙◌, sym, ap, subst, rules, Option}
use Rattle.std.specs.BTreeMap.{is_at}
use Rattle.std.specs.BTreeMap.Range.{entries_between}
use Rattle.std.specs.declared.ops.Bound.TheVariants.{Included, Unbounded}
use Rattle.std.specs.FinMap.{get, insert}
use Rattle.std.specs.List.{filter}
use Rattle.std.specs.Map.{lookup}
use Rattle.std.specs.Map.Iter.{deref_pair}
use Rattle.sdb_validate.specs.Types.{Key, TxId}
use Rattle.sdb_types.specs.Contents.{in_span}
use Rattle.sdb_types.specs.Order.{key_cmp}
use Rattle.sdb_phases.specs.declared.check.Expected.TheVariants.{Based}
use Rattle.sdb_phases.specs.Checks.{wished_version}
use Rattle.sdb_ordered.proofs.Public.{is_from, lies_from, lies_later, LiesFrom}
use Rattle.sdb_validate.specs.Rescan.{expected_of_written}
use Rattle.sdb_validate.proofs.Ranges.{from_least, one_based, all_passed}
use Rattle.sdb_validate.proofs.checks.put_writes.Goals as goal

pub loop-key-init : goal.loop-key-init
loop-key-init c =
    let span = c.args.span.now in
    let es = c.args.bases.now.entries in
    let iter : c.into_iter-key-iterator.result ≡ filter (λ (e : Key × Option TxId). is_from span e.0) es =
    (search rules) ∙ c.range-key-items.ensures.between (search rules) ∙ ap (λ (k : Key). entries_between key_cmp (Included k) Unbounded es) c.in_ok-start.ensures in
    record {
      wished = λ q. from_least span c.into_iter-key-iterator.result es (get c.args.wishes.now q) q iter;
      agrees = subst (LiesFrom span) (sym iter) (lies_from span es c.range-key-items.ensures.ordered);
    }

pub loop-key-preserved : goal.loop-key-preserved
loop-key-preserved c =
    let span = c.args.span.now in
    let m = c.loop-key.wishes in
    let e = deref_pair (c.in-Some.key, c.in-Some.base) in
    let es = c.next.new.self in
    record {
      wished = λ q.
          ap (λ n. expected_of_written (in_span span q) (lookup (is_at (key_cmp q)) es) (get n q)) (c.in_ok-insert.ensures.ok ∙ ap (λ same. insert m e.0 (Based same)) (c.is_based-same.ensures ∙ ap (λ o. wished_version o e.1) c.find.ensures))
          ∙ one_based span e es m q (sym c.if-not-contains.ensures)
          ∙ ap (λ left. expected_of_written (in_span span q) (lookup (is_at (key_cmp q)) left) (get m q)) (sym c.in-Some.ensures.steps) ∙ c.loop-key.invariant.wished q;
      agrees = lies_later span e es (subst (LiesFrom span) c.in-Some.ensures.steps c.loop-key.invariant.agrees);
    }

pub returns-then-not-contains : goal.returns-then-not-contains
returns-then-not-contains c =
    let span = c.args.span.now in
    let e = deref_pair (c.in-Some.key, c.in-Some.base) in
    λ q.
    all_passed span c.loop-key.key-iterator e c.next.new.self (get c.loop-key.wishes q) _ q c.in-Some.ensures.steps c.loop-key.invariant.agrees (sym c.if-not-contains.ensures) (c.loop-key.invariant.wished q)
