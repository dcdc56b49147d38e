use Rattle.std.proofs.Common.{ℕ, length, take, ap, ◌∙◌}
use Rattle.sdb_snapshot.proofs.Fronts.{starts_take}
use Rattle.sdb_snapshot.proofs.read_set.ReadSet.add.Goals as goal

pub returns-in-Err-clause-err : goal.returns-in-Err-clause-err
returns-in-Err-clause-err c =
    c.cut.ensures ∙ ap (λ (n : ℕ). take n c.note_each.new.self) (c.len-len.ensures ∙ ap length c.self.view_is) ∙ starts_take c.args.self.now c.note_each.new.self c.in-Err.ensures.err
