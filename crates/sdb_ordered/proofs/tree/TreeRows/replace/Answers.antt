use Rattle.std.proofs.Common.{◌≡◌, ◌∙◌, ap, sym, subst, refl}
use Rattle.std.specs.Prelude.{IsSome}
use Rattle.std.specs.FinMap.{insert}
use Rattle.sdb_types.specs.declared.record.Record.{Record}
use Rattle.sdb_types.proofs.Public.{key_exact, key_total}
use Rattle.sdb_store.specs.Batches.{replaced}
use Rattle.sdb_ordered.proofs.TreeLemmas.{inserted}
use Rattle.sdb_ordered.proofs.Writes.{lies_at, replaced_none, replaced_some}
use Rattle.sdb_ordered.proofs.tree.TreeRows.replace.Goals as goal

pub returns-in-Some : goal.returns-in-Some
returns-in-Some c =
    let r : Record = record { key = c.into_parts-key.result.0; columns = c.into_parts-key.result.1 } in
    let same : r ≡ c.args.rec = λ i. record { key = c.into_parts-key.ensures.key i; columns = c.into_parts-key.ensures.columns i } in
    let es = c.self.inside.rows.entries in
    let updates = (c.get_mut.follows.holds r.columns).3 (subst IsSome c.in-Some.ensures.value refl) in
    inserted key_total key_exact es (c.get_mut.follows.lender r.columns).entries r.key r.columns updates.0 ∙ ap (λ m. insert m r.key r.columns) c.self.view_is
    ∙ sym (replaced_some r c.args.self.now c.in-Some.found.now (lies_at es c.args.self.now r.key _ c.self.view_is c.in-Some.ensures.value))
    ∙ ap (λ x. replaced x c.args.self.now) same

pub returns : goal.returns
returns c =
    let r : Record = record { key = c.into_parts-key.result.0; columns = c.into_parts-key.result.1 } in
    let same : r ≡ c.args.rec = λ i. record { key = c.into_parts-key.ensures.key i; columns = c.into_parts-key.ensures.columns i } in
    let es = c.self.inside.rows.entries in
    rw c.get_mut.follows.holds-at-none (c.self.view_is ∙ sym (replaced_none r c.args.self.now (lies_at es c.args.self.now r.key _ c.self.view_is c.in-None.ensures.value)) ∙ ap (λ x. replaced x c.args.self.now) same)
