use Rattle.std.proofs.Common.{◌∙◌, ap, sym}
use Rattle.sdb_hashed.specs.Put.{with_rows}
use Rattle.sdb_hashed.proofs.Spans.{with_last}
use Rattle.sdb_hashed.proofs.parts.add_rows.Goals as goal

pub loop-rec-preserved : goal.loop-rec-preserved
loop-rec-preserved c =
    ap (with_rows c.pop.new.self.items) c.in_ok-insert.ensures.ok ∙ sym (with_last c.pop.new.self.items c.in-Some.rec c.loop-rec.all)
    ∙ ap (λ rs. with_rows rs c.loop-rec.all) (sym c.in-Some.ensures.items) ∙ c.loop-rec.invariant
