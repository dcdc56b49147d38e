use Rattle.std.proofs.Common.{◌∙◌, ◌+◌, ap, take, add-one, sym, ◌++◌, ◌∷◌, []}
use Rattle.std.proofs.Math.Seq.{take-suc}
use Rattle.sdb_catalog.specs.declared.entry.Entry.{Entry}
use Rattle.sdb_catalog.proofs.Opening.{placed_more}
use Rattle.sdb_catalog.proofs.open.place_all.Goals as goal

pub loop-entry-preserved : goal.loop-entry-preserved
loop-entry-preserved g c =
    let es = c.args.entries.now in
    let i = c.loop-entry.entry-index in
    let grown = ap (λ n. take n es) (add-one i) ∙ take-suc es i c.entry-item.result c.loop-entry-test.true ∙ ap (λ (e : Entry). take i es ++ e ∷ []) (sym c.entry-item.is) in
    record {
      stores = c.in_ok-place_one.ensures.stores ∙ c.loop-entry.invariant.stores;
      where_known = λ at h. c.in_ok-place_one.ensures.where_known at (c.loop-entry.invariant.where_known at h);
      placed = placed_more (g.R.Registry.state c.loop-entry.stores).places (g.R.Registry.state c.place_one.new.stores).places (take i es) (take (i + 1) es) c.entry-item.result grown c.loop-entry.invariant.placed c.in_ok-place_one.ensures.ok;
    }
