use Rattle.std.proofs.Common.{◌∙◌, ap, None, Some}
use Rattle.std.specs.FinMap.{get}
use Rattle.std.proofs.lemmas.Map.Keys.{IsDistinct-from_sorted}
use Rattle.sdb_types.specs.declared.record.Request.TheVariants.{DeleteIf}
use Rattle.sdb_types.specs.Contents.{after}
use Rattle.sdb_hashed.proofs.Changes.{delete_local}
use Rattle.sdb_hashed.proofs.Calls.{found_part, through_own, through_ok, through_err, leaves, answers_along, write_reply, delete_none}
use Rattle.sdb_hashed.proofs.parts.PartsRows.delete.Goals as goal
use Rattle.sdb_hashed.proofs.parts.PartsRows.delete.Goals.{in-Some, in-None}

pub invariant_of-self : goal.invariant_of-self
invariant_of-self g c =
    let f = g.R.Rows.contents in
    let k = c.args.key.now in
    let q = DeleteIf k c.args.condition.now in
    elim c.match-get_mut.branch [
      | in-Some s ↦
          let v = s.in-Some.rows.now in
          let w = s.delete.new.self in
          let h = rw c.of.ensures at c.get_mut.follows.holds w in
          rw s.self-inside-is
          (h.4, through_own g.K.Ord.cmp g.met.K.Part.exact g.K.Part.part f c.self.inside.rows (c.get_mut.follows.lender w) k v w (IsDistinct-from_sorted g.K.Ord.cmp _ c.self.invariant.0) c.self.invariant.1 (rw c.of.ensures at s.in-Some.ensures.value) h (after q) (delete_local k c.args.condition.now) s.delete.result (leaves q s.delete.result (f v) (f w) s.delete.ensures.ok) s.delete.ensures.err)
      | in-None s ↦ rw (s.self-inside-is, c.get_mut.follows.holds-at-none) c.self.invariant
    ]

pub returns-clause-ok : goal.returns-clause-ok
returns-clause-ok g c =
    let f = g.R.Rows.contents in
    let k = c.args.key.now in
    let q = DeleteIf k c.args.condition.now in
    let es = c.self.inside.rows.entries in
    elim c.match-get_mut.branch [
      | in-Some s ↦
          let v = s.in-Some.rows.now in
          let w = s.delete.new.self in
          let h = rw c.of.ensures at c.get_mut.follows.holds w in
          let found = rw c.of.ensures at s.in-Some.ensures.value in
          let is = found_part g.K.Ord.cmp g.met.K.Part.exact g.K.Part.part f es (IsDistinct-from_sorted g.K.Ord.cmp _ c.self.invariant.0) c.self.invariant.1 k (Some v) found ∙ ap (λ m. get m k) c.self.view_is in
          rw (s.result-is, s.self-inside-is)
          (answers_along q s.delete.result (f v) (f w) c.args.self.now _ (write_reply c.args.condition.now k (get (f v) k) (get c.args.self.now k) is)
          (through_ok g.K.Ord.cmp g.met.K.Part.exact g.K.Part.part f c.self.inside.rows (c.get_mut.follows.lender w) k v w (IsDistinct-from_sorted g.K.Ord.cmp _ c.self.invariant.0) c.self.invariant.1 found h (after q) (delete_local k c.args.condition.now) c.args.self.now c.self.view_is s.delete.result (leaves q s.delete.result (f v) (f w) s.delete.ensures.ok))
          s.delete.ensures.ok)
      | in-None s ↦
          let none = rw c.of.ensures at s.in-None.ensures.value in
          let is = found_part g.K.Ord.cmp g.met.K.Part.exact g.K.Part.part f es (IsDistinct-from_sorted g.K.Ord.cmp _ c.self.invariant.0) c.self.invariant.1 k None none ∙ ap (λ m. get m k) c.self.view_is in
          rw (s.result-is, s.self-inside-is, c.get_mut.follows.holds-at-none)
          (delete_none c.args.condition.now c.args.self.now _ k is s.reply_to_none.result s.reply_to_none.ensures c.self.view_is)
    ]

pub returns-clause-err : goal.returns-clause-err
returns-clause-err g c =
    elim c.match-get_mut.branch [
      | in-Some s ↦
          let w = s.delete.new.self in
          let h = rw c.of.ensures at c.get_mut.follows.holds w in
          rw (s.result-is, s.self-inside-is)
          (through_err g.K.Ord.cmp g.met.K.Part.exact g.K.Part.part g.R.Rows.contents c.self.inside.rows (c.get_mut.follows.lender w) c.args.key.now s.in-Some.rows.now w (IsDistinct-from_sorted g.K.Ord.cmp _ c.self.invariant.0) c.self.invariant.1 (rw c.of.ensures at s.in-Some.ensures.value) h c.args.self.now c.self.view_is s.delete.result s.delete.ensures.err)
      | in-None s ↦ rw s.result-is tt
    ]
