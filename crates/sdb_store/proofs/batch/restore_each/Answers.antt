use Rattle.std.proofs.Common.{rules, vec_len, ◌≡◌, ℕ, ◌+◌, ◌∙◌, List, [], ◌∷◌, Option, ap, arith, get_or, length, length-append, subst}
use Rattle.sdb_types.specs.declared.record.Record.{Record}
use Rattle.sdb_store.specs.Batches.{ArePut}
use Rattle.sdb_store.proofs.Batches.{back_more}
use Rattle.sdb_store.proofs.batch.restore_each.Goals as goal

pub loop-last-preserved : goal.loop-last-preserved
loop-last-preserved g c =
    let puts = c.args.puts.now in
    let xs = c.pop.new.self.items in
    let all : length c.loop-last.found.items ≡ length xs + 1 = ap length c.in-Some.ensures.items ∙ length-append xs (c.in-Some.last ∷ []) in
    let size : vec_len c.pop.new.self ≡ length xs = search rules in (
      omega (arith, all, c.loop-last.invariant.0),
      λ before it. back_more puts xs c.in-Some.last c.index-puts-len.result before (g.R.Rows.contents c.loop-last.rows) (g.R.Rows.contents c.restore.new.rows) c.requires.once (omega (arith, all, c.loop-last.invariant.0))
          (c.index-puts-len.is ∙ ap (λ (n : ℕ). get_or puts n c.index-puts-len.result) (c.len.ensures ∙ size)) c.restore.ensures
          (subst (λ (ys : List (Option Record)). ArePut puts ys before (g.R.Rows.contents c.loop-last.rows)) c.in-Some.ensures.items (c.loop-last.invariant.1 before it)),
    )
