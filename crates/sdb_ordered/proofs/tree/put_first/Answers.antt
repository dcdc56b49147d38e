use Rattle.std.proofs.Common.{◌≡◌, ◌∙◌, ap, sym, refl, rules, Some, None}
use Rattle.std.specs.FinMap.{from_entries}
use Rattle.sdb_types.specs.Order.{key_cmp}
use Rattle.sdb_types.specs.declared.record.Condition.TheVariants.{Absent}
use Rattle.sdb_ordered.proofs.Writes.{lies_at, written, unmet_put, put}
use Rattle.sdb_ordered.proofs.tree.put_first.Goals as goal

pub returns-in_ok-copied-in-Occupied-clause-ok : goal.returns-in_ok-copied-in-Occupied-clause-ok
returns-in_ok-copied-in-Occupied-clause-ok c =
    let key = c.args.rec.now.key in
    let es = c.args.rows.now.entries in
    let value = rw c.in_ok-copy.ensures at (rw c.in-Occupied.is at c.in_ok-entry.ensures.value) in
    unmet_put Absent key (from_entries es) _ (Some c.get.result.now) (lies_at es (from_entries es) key _ refl (sym c.get.ensures ∙ value)) c.args.rec.now.columns _ refl (ap Some c.in_ok-copied-in-Occupied.ensures)
    (let kept : from_entries {R = key_cmp} c.in-Occupied.entry.map.now.entries ≡ from_entries es = ap (from_entries {R = key_cmp}) (rw c.in-Occupied.is at c.in_ok-entry.ensures.unchanged) in
    search (rules, kept))

pub returns-in-Vacant-clause-ok : goal.returns-in-Vacant-clause-ok
returns-in-Vacant-clause-ok c =
    let key = c.args.rec.now.key in
    let es = c.args.rows.now.entries in
    let columns = c.args.rec.now.columns in
    let value = rw c.in_ok-copy.ensures at (rw c.in-Vacant.is at c.in_ok-entry.ensures.found) in
    let updates = rw c.in-Vacant.is at c.in_ok-entry.ensures.update in
    let left = written es _ (from_entries es) c.in_ok-copy.field-0 key c.in_ok-columns.columns columns refl c.in_ok-copy.ensures c.in_ok-columns.ensures (updates.0 c.in_ok-columns.columns).0 in
    put Absent key (from_entries es) _ None (lies_at es (from_entries es) key None refl (sym value)) columns refl
    (let done = ap (λ n. from_entries {R = key_cmp} n.entries) c.insert_entry.ensures.1 ∙ left in
    search (rules, done))
