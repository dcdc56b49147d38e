use Rattle.std.specs.FinMap.{insert}
use Rattle.std.proofs.lemmas.Map.Keys.{IsDistinct-from_sorted}
use Rattle.sdb_hashed.proofs.Changes.{insert_local}
use Rattle.sdb_hashed.proofs.Calls.{through_own, through_ok, through_err, added_own, added_held, added_err}
use Rattle.sdb_hashed.proofs.parts.PartsRows.insert.Goals as goal

pub invariant_of-self : goal.invariant_of-self
invariant_of-self g c =
    let w = c.insert.new.self in
    let k = c.args.rec.key in
    let h = rw c.of.ensures at c.get_mut.follows.holds w in
    (h.4, through_own g.K.Ord.cmp g.met.K.Part.exact g.K.Part.part g.R.Rows.contents c.self.inside.rows (c.get_mut.follows.lender w) k c.in-Some.rows.now w (IsDistinct-from_sorted g.K.Ord.cmp _ c.self.invariant.0) c.self.invariant.1 (rw c.of.ensures at c.in-Some.ensures.value) h (λ m. insert m k c.args.rec.columns) (insert_local k c.args.rec.columns) c.insert.result c.insert.ensures.ok c.insert.ensures.err)

pub returns-in-Some-clause-ok : goal.returns-in-Some-clause-ok
returns-in-Some-clause-ok g c =
    let w = c.insert.new.self in
    let k = c.args.rec.key in
    let h = rw c.of.ensures at c.get_mut.follows.holds w in
    through_ok g.K.Ord.cmp g.met.K.Part.exact g.K.Part.part g.R.Rows.contents c.self.inside.rows (c.get_mut.follows.lender w) k c.in-Some.rows.now w (IsDistinct-from_sorted g.K.Ord.cmp _ c.self.invariant.0) c.self.invariant.1 (rw c.of.ensures at c.in-Some.ensures.value) h (λ m. insert m k c.args.rec.columns) (insert_local k c.args.rec.columns) c.args.self.now c.self.view_is c.insert.result c.insert.ensures.ok

pub returns-in-Some-clause-err : goal.returns-in-Some-clause-err
returns-in-Some-clause-err g c =
    let w = c.insert.new.self in
    let h = rw c.of.ensures at c.get_mut.follows.holds w in
    through_err g.K.Ord.cmp g.met.K.Part.exact g.K.Part.part g.R.Rows.contents c.self.inside.rows (c.get_mut.follows.lender w) c.args.rec.key c.in-Some.rows.now w (IsDistinct-from_sorted g.K.Ord.cmp _ c.self.invariant.0) c.self.invariant.1 (rw c.of.ensures at c.in-Some.ensures.value) h c.args.self.now c.self.view_is c.insert.result c.insert.ensures.err

pub invariant_of-self-in-None : goal.invariant_of-self-in-None
invariant_of-self-in-None g c =
    let none = rw c.of.ensures at c.in-None.ensures.value in
    (c.add_part.ensures.ordered, added_own g.K.Ord.cmp g.met.K.Part.exact g.K.Part.part g.R.Rows.contents c.self.inside.rows.entries c.add_part.new.parts.entries (IsDistinct-from_sorted g.K.Ord.cmp _ c.self.invariant.0) (IsDistinct-from_sorted g.K.Ord.cmp _ c.add_part.ensures.ordered) c.self.invariant.1 c.args.rec.key c.args.rec.columns none c.add_part.result (rw c.get_mut.follows.holds-at-none at c.add_part.ensures.ok) (rw c.get_mut.follows.holds-at-none at c.add_part.ensures.err))

pub returns-in-None-clause-ok : goal.returns-in-None-clause-ok
returns-in-None-clause-ok g c =
    let none = rw c.of.ensures at c.in-None.ensures.value in
    added_held g.K.Ord.cmp g.met.K.Part.exact g.K.Part.part g.R.Rows.contents c.self.inside.rows.entries c.add_part.new.parts.entries (IsDistinct-from_sorted g.K.Ord.cmp _ c.self.invariant.0) (IsDistinct-from_sorted g.K.Ord.cmp _ c.add_part.ensures.ordered) c.self.invariant.1 c.args.rec.key c.args.rec.columns none c.args.self.now c.self.view_is c.add_part.result (rw c.get_mut.follows.holds-at-none at c.add_part.ensures.ok)

pub returns-in-None-clause-err : goal.returns-in-None-clause-err
returns-in-None-clause-err g c =
    added_err g.K.Ord.cmp g.met.K.Part.exact g.K.Part.part g.R.Rows.contents c.self.inside.rows.entries c.add_part.new.parts.entries (IsDistinct-from_sorted g.K.Ord.cmp _ c.self.invariant.0) (IsDistinct-from_sorted g.K.Ord.cmp _ c.add_part.ensures.ordered) c.self.invariant.1 c.args.self.now c.self.view_is c.add_part.result (rw c.get_mut.follows.holds-at-none at c.add_part.ensures.err)
