use Rattle.std.proofs.Common.{◌∙◌, sym, ap, None, Ok}
use Rattle.std.specs.FinMap.{get}
use Rattle.std.proofs.lemmas.Map.Keys.{IsDistinct-from_sorted}
use Rattle.sdb_store.specs.Batches.{replaced}
use Rattle.sdb_hashed.proofs.Changes.{replace_local, replace_absent}
use Rattle.sdb_hashed.proofs.Calls.{found_part, through_own, through_ok}
use Rattle.sdb_hashed.proofs.parts.PartsRows.replace.Goals as goal
use Rattle.sdb_hashed.proofs.parts.PartsRows.replace.Goals.{in-Some, in-None}

pub invariant_of-self : goal.invariant_of-self
invariant_of-self g c =
    let k = c.args.rec.key in
    elim c.match-get_mut.branch [
      | in-Some v ↦
          let w = v.replace.new.self in
          let h = rw c.of.ensures at c.get_mut.follows.holds w in
          rw v.self-inside-is
          (h.4, through_own g.K.Ord.cmp g.met.K.Part.exact g.K.Part.part g.R.Rows.contents c.self.inside.rows (c.get_mut.follows.lender w) k v.in-Some.rows.now w (IsDistinct-from_sorted g.K.Ord.cmp _ c.self.invariant.0) c.self.invariant.1 (rw c.of.ensures at v.in-Some.ensures.value) h {A = Unit {0}} {E = Unit {0}} (replaced c.args.rec) (replace_local c.args.rec) (Ok tt) v.replace.ensures tt)
      | in-None v ↦ rw (v.self-inside-is, c.get_mut.follows.holds-at-none) c.self.invariant
    ]

pub returns : goal.returns
returns g c =
    let k = c.args.rec.key in
    elim c.match-get_mut.branch [
      | in-Some v ↦
          let w = v.replace.new.self in
          let h = rw c.of.ensures at c.get_mut.follows.holds w in
          rw v.self-inside-is
          (through_ok g.K.Ord.cmp g.met.K.Part.exact g.K.Part.part g.R.Rows.contents c.self.inside.rows (c.get_mut.follows.lender w) k v.in-Some.rows.now w (IsDistinct-from_sorted g.K.Ord.cmp _ c.self.invariant.0) c.self.invariant.1 (rw c.of.ensures at v.in-Some.ensures.value) h {A = Unit {0}} {E = Unit {0}} (replaced c.args.rec) (replace_local c.args.rec) c.args.self.now c.self.view_is (Ok tt) v.replace.ensures)
      | in-None v ↦
          let none = rw c.of.ensures at v.in-None.ensures.value in
          let is = found_part g.K.Ord.cmp g.met.K.Part.exact g.K.Part.part g.R.Rows.contents c.self.inside.rows.entries (IsDistinct-from_sorted g.K.Ord.cmp _ c.self.invariant.0) c.self.invariant.1 k None none ∙ ap (λ m. get m k) c.self.view_is in
          rw (v.self-inside-is, c.get_mut.follows.holds-at-none) (c.self.view_is ∙ sym (replace_absent c.args.self.now c.args.rec (sym is)))
    ]
