use Rattle.std.proofs.Common.{subst}
use Rattle.std.specs.Prelude.{IfSome, IfNone}
use Rattle.std.specs.FinMap.{empty}
use Rattle.std.specs.Ordering.{eq_by_cmp}
use Rattle.std.proofs.lemmas.Map.Keys.{IsDistinct-from_sorted}
use Rattle.sdb_types.specs.Contents.{Contents}
use Rattle.sdb_hashed.specs.Gathered.{IsPartOf}
use Rattle.sdb_hashed.proofs.Parting.{lent}
use Rattle.sdb_hashed.proofs.parts.Parts.part.Goals as goal

pub returns-clause-some : goal.returns-clause-some
returns-clause-some g c =
    subst (λ (m : Contents). IfSome c.get.result (λ rows. IsPartOf g.K.Part.part c.args.name.now (g.R.Rows.contents rows.now) m)) c.self.view_is
    (lent (eq_by_cmp g.K.Ord.cmp) g.met.K.Part.exact g.K.Part.part g.R.Rows.contents c.self.inside.rows.entries (IsDistinct-from_sorted g.K.Ord.cmp _ c.self.invariant.0) c.self.invariant.1 c.args.name.now c.get.result c.get.ensures.value).0

pub returns-clause-none : goal.returns-clause-none
returns-clause-none g c =
    subst (λ (m : Contents). IfNone c.get.result (IsPartOf g.K.Part.part c.args.name.now empty m)) c.self.view_is
    (lent (eq_by_cmp g.K.Ord.cmp) g.met.K.Part.exact g.K.Part.part g.R.Rows.contents c.self.inside.rows.entries (IsDistinct-from_sorted g.K.Ord.cmp _ c.self.invariant.0) c.self.invariant.1 c.args.name.now c.get.result c.get.ensures.value).1
