use Rattle.std.proofs.Common.{◌∙◌, ap, None, Some, Ok}
use Rattle.std.specs.FinMap.{get}
use Rattle.std.proofs.lemmas.Map.Keys.{IsDistinct-from_sorted}
use Rattle.sdb_types.specs.declared.record.Request.TheVariants.{PutIf}
use Rattle.sdb_types.specs.Contents.{after}
use Rattle.sdb_hashed.proofs.Changes.{put_local}
use Rattle.sdb_hashed.proofs.Calls.{found_part, through_own, through_ok, through_err, added_own, added_held, leaves, answers_along, write_reply, put_unmet, put_first, kept_held, kept_own, on_err}
use Rattle.sdb_hashed.proofs.parts.PartsRows.put.Goals as goal

pub invariant_of-self : goal.invariant_of-self
invariant_of-self g c =
    let f = g.R.Rows.contents in
    let q = PutIf c.args.rec.now c.args.condition.now in
    let w = c.put.new.self in
    let h = rw c.of.ensures at c.get_mut.follows.holds w in
    (h.4, through_own g.K.Ord.cmp g.met.K.Part.exact g.K.Part.part f c.self.inside.rows (c.get_mut.follows.lender w) c.args.rec.now.key c.in-Some.rows.now w (IsDistinct-from_sorted g.K.Ord.cmp _ c.self.invariant.0) c.self.invariant.1 (rw c.of.ensures at c.in-Some.ensures.value) h (after q) (put_local c.args.rec.now c.args.condition.now) c.put.result (leaves q c.put.result (f c.in-Some.rows.now) (f w) c.put.ensures.ok) c.put.ensures.err)

pub returns-in-Some-clause-ok : goal.returns-in-Some-clause-ok
returns-in-Some-clause-ok g c =
    let f = g.R.Rows.contents in
    let k = c.args.rec.now.key in
    let q = PutIf c.args.rec.now c.args.condition.now in
    let v = c.in-Some.rows.now in
    let w = c.put.new.self in
    let h = rw c.of.ensures at c.get_mut.follows.holds w in
    let found = rw c.of.ensures at c.in-Some.ensures.value in
    let is = found_part g.K.Ord.cmp g.met.K.Part.exact g.K.Part.part f c.self.inside.rows.entries (IsDistinct-from_sorted g.K.Ord.cmp _ c.self.invariant.0) c.self.invariant.1 k (Some v) found ∙ ap (λ m. get m k) c.self.view_is in
    answers_along q c.put.result (f v) (f w) c.args.self.now _ (write_reply c.args.condition.now k (get (f v) k) (get c.args.self.now k) is)
    (through_ok g.K.Ord.cmp g.met.K.Part.exact g.K.Part.part f c.self.inside.rows (c.get_mut.follows.lender w) k v w (IsDistinct-from_sorted g.K.Ord.cmp _ c.self.invariant.0) c.self.invariant.1 found h (after q) (put_local c.args.rec.now c.args.condition.now) c.args.self.now c.self.view_is c.put.result (leaves q c.put.result (f v) (f w) c.put.ensures.ok))
    c.put.ensures.ok

pub returns-in-Some-clause-err : goal.returns-in-Some-clause-err
returns-in-Some-clause-err g c =
    let w = c.put.new.self in
    let h = rw c.of.ensures at c.get_mut.follows.holds w in
    through_err g.K.Ord.cmp g.met.K.Part.exact g.K.Part.part g.R.Rows.contents c.self.inside.rows (c.get_mut.follows.lender w) c.args.rec.now.key c.in-Some.rows.now w (IsDistinct-from_sorted g.K.Ord.cmp _ c.self.invariant.0) c.self.invariant.1 (rw c.of.ensures at c.in-Some.ensures.value) h c.args.self.now c.self.view_is c.put.result c.put.ensures.err

pub returns-then-not-holds-clause-ok : goal.returns-then-not-holds-clause-ok
returns-then-not-holds-clause-ok g c =
    let k = c.args.rec.now.key in
    let none = rw c.of.ensures at c.in-None.ensures.value in
    let is = found_part g.K.Ord.cmp g.met.K.Part.exact g.K.Part.part g.R.Rows.contents c.self.inside.rows.entries (IsDistinct-from_sorted g.K.Ord.cmp _ c.self.invariant.0) c.self.invariant.1 k None none ∙ ap (λ m. get m k) c.self.view_is in
    put_unmet c.args.condition.now c.args.self.now _ k is c.args.rec.now.columns c.if-not-holds.ensures (rw c.get_mut.follows.holds-at-none c.self.view_is)

pub returns-in_err-add_part-in-None-clause-err : goal.returns-in_err-add_part-in-None-clause-err
returns-in_err-add_part-in-None-clause-err g c =
    on_err c.from_residual-in_err-add_part-in-None.result
    (kept_held g.K.Ord.cmp g.met.K.Part.exact g.K.Part.part g.R.Rows.contents c.self.inside.rows.entries c.add_part.new.parts.entries (IsDistinct-from_sorted g.K.Ord.cmp _ c.self.invariant.0) (IsDistinct-from_sorted g.K.Ord.cmp _ c.add_part.ensures.ordered) c.self.invariant.1 (rw c.get_mut.follows.holds-at-none at c.in_err-add_part-in-None.ensures.err) ∙ c.self.view_is)

pub invariant_of-self-in_err-add_part-in-None : goal.invariant_of-self-in_err-add_part-in-None
invariant_of-self-in_err-add_part-in-None g c = (
  c.add_part.ensures.ordered,
  kept_own g.K.Ord.cmp g.met.K.Part.exact g.K.Part.part g.R.Rows.contents c.self.inside.rows.entries c.add_part.new.parts.entries (IsDistinct-from_sorted g.K.Ord.cmp _ c.self.invariant.0) (IsDistinct-from_sorted g.K.Ord.cmp _ c.add_part.ensures.ordered) c.self.invariant.1 (rw c.get_mut.follows.holds-at-none at c.in_err-add_part-in-None.ensures.err),
)

pub invariant_of-self-in-None : goal.invariant_of-self-in-None
invariant_of-self-in-None g c =
    let none = rw c.of.ensures at c.in-None.ensures.value in
    let added = rw (c.in_ok-copy-in-None.ensures, c.get_mut.follows.holds-at-none) at c.in_ok-add_part-in-None.ensures.ok in
    (c.add_part.ensures.ordered, added_own g.K.Ord.cmp g.met.K.Part.exact g.K.Part.part g.R.Rows.contents c.self.inside.rows.entries c.add_part.new.parts.entries (IsDistinct-from_sorted g.K.Ord.cmp _ c.self.invariant.0) (IsDistinct-from_sorted g.K.Ord.cmp _ c.add_part.ensures.ordered) c.self.invariant.1 c.args.rec.now.key c.args.rec.now.columns none {A = Unit {0}} {E = Unit {0}} (Ok tt) added tt)

pub returns-in_ok-add_part-in-None-clause-ok : goal.returns-in_ok-add_part-in-None-clause-ok
returns-in_ok-add_part-in-None-clause-ok g c =
    let k = c.args.rec.now.key in
    let none = rw c.of.ensures at c.in-None.ensures.value in
    let is = found_part g.K.Ord.cmp g.met.K.Part.exact g.K.Part.part g.R.Rows.contents c.self.inside.rows.entries (IsDistinct-from_sorted g.K.Ord.cmp _ c.self.invariant.0) c.self.invariant.1 k None none ∙ ap (λ m. get m k) c.self.view_is in
    let added = rw (c.in_ok-copy-in-None.ensures, c.get_mut.follows.holds-at-none) at c.in_ok-add_part-in-None.ensures.ok in
    put_first c.args.condition.now c.args.self.now _ k is c.args.rec.now.columns c.if-not-holds.ensures
    (added_held g.K.Ord.cmp g.met.K.Part.exact g.K.Part.part g.R.Rows.contents c.self.inside.rows.entries c.add_part.new.parts.entries (IsDistinct-from_sorted g.K.Ord.cmp _ c.self.invariant.0) (IsDistinct-from_sorted g.K.Ord.cmp _ c.add_part.ensures.ordered) c.self.invariant.1 k c.args.rec.now.columns none {A = Unit {0}} {E = Unit {0}} c.args.self.now c.self.view_is (Ok tt) added)
