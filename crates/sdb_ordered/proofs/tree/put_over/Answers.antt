use Rattle.std.proofs.Common.{◌∙◌, ap, sym, subst, refl, Some, None}
use Rattle.std.specs.Prelude.{IsSome}
use Rattle.std.specs.BTreeMap.{is_at}
use Rattle.std.specs.FinMap.{from_entries}
use Rattle.std.proofs.lemmas.Map.Steps.{set_value_same}
use Rattle.sdb_types.specs.Order.{key_cmp}
use Rattle.sdb_ordered.proofs.Writes.{lies_at, written, on_err, unmet_put, put}
use Rattle.sdb_ordered.proofs.tree.put_over.Goals as goal

pub returns-in_err-copied-in-Some-clause-err : goal.returns-in_err-copied-in-Some-clause-err
returns-in_err-copied-in-Some-clause-err c =
    let found = c.in-Some.found.now in
    on_err c.from_residual-in_err-copied-in-Some.result
    ((c.get_mut.follows.holds found).0 ∙ set_value_same (is_at (key_cmp c.args.rec.now.key)) c.args.rows.now.entries found (sym c.in-Some.ensures.value))

pub returns-then-not-holds_of_columns-clause-ok : goal.returns-then-not-holds_of_columns-clause-ok
returns-then-not-holds_of_columns-clause-ok c =
    let key = c.args.rec.now.key in
    let es = c.args.rows.now.entries in
    let found = c.in-Some.found.now in
    unmet_put c.args.condition.now key (from_entries es) _ (Some found) (lies_at es (from_entries es) key _ refl c.in-Some.ensures.value) c.args.rec.now.columns _ (c.if-not-holds_of_columns.ensures key) (ap Some c.in_ok-copied-in-Some.ensures)
    (ap (from_entries {R = key_cmp}) ((c.get_mut.follows.holds found).0 ∙ set_value_same (is_at (key_cmp key)) es found (sym c.in-Some.ensures.value)))

pub returns-else-not-holds_of_columns-clause-ok : goal.returns-else-not-holds_of_columns-clause-ok
returns-else-not-holds_of_columns-clause-ok c =
    let key = c.args.rec.now.key in
    let es = c.args.rows.now.entries in
    let columns = c.in_ok-columns.columns in
    let updates = (c.get_mut.follows.holds columns).3 (subst IsSome c.in-Some.ensures.value refl) in
    put c.args.condition.now key (from_entries es) _ (Some c.in-Some.found.now) (lies_at es (from_entries es) key _ refl c.in-Some.ensures.value) c.args.rec.now.columns (c.if-not-holds_of_columns.ensures key)
    (written es (c.get_mut.follows.lender columns).entries (from_entries es) key key columns c.args.rec.now.columns refl refl c.in_ok-columns.ensures updates.0)

pub returns-in-None-clause-ok : goal.returns-in-None-clause-ok
returns-in-None-clause-ok c =
    let key = c.args.rec.now.key in
    let es = c.args.rows.now.entries in
    unmet_put c.args.condition.now key (from_entries es) _ None (lies_at es (from_entries es) key None refl c.in-None.ensures.value) c.args.rec.now.columns None (sym c.requires) refl
    (ap (λ m. from_entries {R = key_cmp} m.entries) c.get_mut.follows.holds-at-none)
